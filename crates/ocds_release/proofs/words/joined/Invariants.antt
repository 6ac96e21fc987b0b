use Rattle.ocds_release.proofs.Names.{◌≡◌, ◌++◌, drop, string_bytes, joined}
use Rattle.ocds_release.proofs.words.joined.Given as goal

abbrev pub invariant-loop-word : goal.invariant-loop-word
invariant-loop-word l = string_bytes l.text ++ joined (drop l.word-index l.words) ≡ joined l.words
