-- Texts made of words.
use Rattle.std.specs.Prelude.{ℕ, List, [], ◌∷◌, ◌++◌, decimal}
use Rattle.office_values.specs.Moments.{moment_text}
use Rattle.ocds_release.specs.Texts.{four_digits}
use Rattle.ocds_release.specs.declared.words.Word.{Word}
use Rattle.ocds_release.specs.declared.words.Word.TheVariants.{Text, Id, Prefix, Moment, Number, FourDigits}

abbrev pub word_text : Word → List ℕ
word_text (Text text) = text.now
word_text (Id id) = id
word_text (Prefix prefix) = prefix
word_text (Moment second) = moment_text second
word_text (Number n) = decimal n
word_text (FourDigits n) = four_digits n

abbrev pub joined : List Word → List ℕ
joined [] = []
joined (w ∷ ws) = word_text w ++ joined ws
