-- A text that was passed is read as the value whose text it is.
use Rattle.ocds_merge.proofs.Names.{◌≡◌, ℕ, ◌≤◌, List, [], ◌∷◌, ◌++◌, Option, Some, option_and_then, refl, sym, ap, ◌∙◌, arith, append-nil, Data, object, depth, read, max_depth, compact_text, has_float, IsWrittenObject, text_member, TextIsKept, EndsBefore, PassedMembers, Reads}
use Rattle.ocds_merge.specs.Inside.Readable.{Passed}
use Rattle.ocds_merge.proofs.KeptLaw.{kept_plain}
use Rattle.ocds_merge.proofs.ReadKept.{kept_reads, read_kept}
use Rattle.ocds_merge.proofs.ReadLaw.{object_read}

whole : (text rest : List ℕ) (d : Data) → TextIsKept d → depth d ≤ max_depth → text ≡ compact_text d ++ rest → rest ≡ [] → Reads text
whole text rest d kept shallow is none =
    let all : text ≡ compact_text d = is ∙ ap (λ (r : List ℕ). compact_text d ++ r) none ∙ append-nil (compact_text d) in
    record { value = d; kept = kept; is = all; reads = ap read all ∙ kept_reads d kept shallow }

pub passed_reads : (text rest : List ℕ) → Passed text rest max_depth → rest ≡ [] → Reads text
passed_reads text rest p none = whole text rest p.value p.kept p.shallow p.is none

-- a text that is read back and begins an object is an object as the office writes it
pub reads_written : (text rest : List ℕ) → text ≡ 123 ∷ rest → Reads text → IsWrittenObject text
reads_written text rest is p =
    let found = object_read text rest p.value is p.reads in
    record { members = found.0; reads = p.reads ∙ ap Some found.1; written = p.is ∙ ap compact_text found.1; no_float = ap has_float (sym found.1) ∙ kept_plain p.value p.kept }

pub object_written : (text inside rest : List ℕ) → text ≡ 123 ∷ inside → PassedMembers inside rest 126 → rest ≡ [] → IsWrittenObject text
object_written text inside rest is p none =
    reads_written text inside is (whole text rest (object p.members) p.kept (omega (arith, p.shallow)) (is ∙ ap (λ (l : List ℕ). 123 ∷ l) p.is) none)

-- a text member that is found in the text of such an object is a member of the object
pub member_read : (text name found : List ℕ) → ((d : Data) (rest : List ℕ) → TextIsKept d → EndsBefore rest → text ≡ compact_text d ++ rest → text_member name d ≡ Some found)
    → IsWrittenObject text → option_and_then (text_member name) (read text) ≡ Some found
member_read text name found finds w =
    let d : Data = object w.members in
    ap (λ (o : Option Data). option_and_then (text_member name) o) w.reads
    ∙ finds d [] (read_kept text d w.reads w.no_float) refl (w.written ∙ sym (append-nil (compact_text d)))
