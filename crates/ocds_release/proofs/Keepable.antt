-- Each release can be stored as text: it has no float, nests at most seven levels, and has the date of its event's moment.
use Rattle.ocds_release.proofs.Names.{◌≡◌, ℕ, List, [], codes, false, ap, arith, unwrap_or, option_and_then, Data, as_str, moment_text, Publisher, date_of, IsStorable, Entry, head_of, release}
use Rattle.ocds_release.specs.Releases.{head_members}
use Rattle.ocds_release.proofs.Flat.{IsFlat, AreEntriesFlat, AreMembersFlat, text_flat, reference_flat, members_flat, entries_flat, inside_flat}
use Rattle.ocds_release.proofs.Dated.{has_name, stays}

pub record IsKeepable (t : ℕ) (d : Data) : Type 0 where
  pub flat : IsFlat 7 d
  pub dated : date_of d ≡ moment_text t

head_flat : (publisher : Publisher) (seq t : ℕ) (notice : List ℕ) → AreMembersFlat 6 (head_members publisher seq t notice)
head_flat publisher seq t notice =
    members_flat 6 (head_of publisher seq t notice)
    (reference_flat 5 _ _, (text_flat 6 _, (text_flat 6 _, (text_flat 6 _, (text_flat 6 _, (text_flat 6 _, tt))))))

-- a release whose event has no member `date`, and no value that nests more than six levels
pub release_keepable : (publisher : Publisher) (seq t : ℕ) (notice : List ℕ) (event : List Entry) → AreEntriesFlat 6 event
    → has_name (codes "date") event ≡ false
    → IsKeepable t (release publisher seq t notice event)
release_keepable publisher seq t notice event flat others = record {
  flat = inside_flat 6 _ (entries_flat 6 event (head_members publisher seq t notice) flat (head_flat publisher seq t notice));
  dated = ap (λ o. unwrap_or (option_and_then as_str o) []) (stays (codes "date") event (head_members publisher seq t notice) others);
}

pub storable : (t : ℕ) (d : Data) → IsKeepable t d → IsStorable d
storable t d h = record { no_float = h.flat.no_float; shallow = omega (arith, h.flat.shallow) }
