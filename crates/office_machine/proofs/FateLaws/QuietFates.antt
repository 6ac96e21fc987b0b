-- Commands that touch no tender and no security.
use Rattle.office_machine.proofs.Names.{◌≡◌, ℕ, List, [], ◌∷◌, ◌++◌, map, Option, Some, None, option_map, refl, sym, ap, ◌∙◌, subst, AllByRecursion, NoticeRow, EnvelopeRow, SealRow, SecurityRow, ContractRow, Put, Tables, notice_at, envelope_at, seal_at, security_at, find_seal, after_puts, ReleaseRow, notice_of_contract, Given, publication_puts, Readings, received_by, received_at, tender_decided, fate_of_tender, security_decided, fate_of_security, found_key}
use Rattle.office_base.specs.declared.records.EnvelopeState.TheVariants as envelope
use Rattle.office_base.specs.declared.records.SecurityState.TheVariants as security
use Rattle.office_machine.proofs.FateLaws.Views.{View, IsSound}
use Rattle.office_machine.proofs.FateLaws.Matched.{EnvelopesMatch, SecuritiesMatch}
use Rattle.office_machine.proofs.FateLaws.Seen.{seen, notice_state, IsQuiet, quiet}
use Rattle.office_machine.proofs.FateLaws.FatesHold.{FatesStand, HaveFates, tenders_same, named_same}
use Rattle.office_machine.proofs.Rows.Keyed as keyed

-- quiet changes keep the facts about fates
pub kept_after : (readings : Readings) (xs : List Given) (ps : List Put) (t : Tables) → AllByRecursion (IsQuiet (seen t) t.clock.receipts) ps
    → HaveFates readings xs t → HaveFates readings xs (after_puts ps t)
kept_after readings xs ps t still kept =
    let same = quiet ps t still in
    let u : Tables = after_puts ps t in
    record {
      sound = subst IsSound (sym same.seen_is) kept.sound;
      tenders =
          subst (λ (E : ℕ → Option EnvelopeRow). EnvelopesMatch readings.digest (received_at xs) (fate_of_tender xs) (λ r. seal_at r u) u.clock.receipts E) (sym (ap (λ (V : View). V.envelope_at) same.seen_is))
          (subst (λ (rows : List SealRow). EnvelopesMatch readings.digest (received_at xs) (fate_of_tender xs) (λ r. find_seal rows r) u.clock.receipts (λ r. envelope_at r t)) (sym same.seals_are)
          (subst (λ (n : ℕ). EnvelopesMatch readings.digest (received_at xs) (fate_of_tender xs) (λ r. seal_at r t) n (λ r. envelope_at r t)) (sym same.receipts_are) kept.tenders));
      named =
          subst (λ (S : ℕ → Option SecurityRow). SecuritiesMatch (received_at xs) (fate_of_security xs) S) (sym (ap (λ (V : View). V.security_at) same.seen_is)) kept.named;
    }

-- a command that takes in no tender and decides nothing keeps the facts about fates
pub one_more : (readings : Readings) (xs : List Given) (x : Given) (t : Tables) → FatesStand readings xs t → received_by x.command x (λ q. received_at xs q) ≡ None
    → ((r : ℕ) → tender_decided x.command x (received_at xs) r ≡ envelope.Sealed) → ((s : ℕ) → security_decided x.command x (received_at xs) s ≡ security.Held) → HaveFates readings (x ∷ xs) t
one_more readings xs x t kept none undecided held = record {
  sound = kept.sound;
  tenders =
      tenders_same readings.digest xs x none t.clock.receipts (λ r. envelope_at r t) (λ r. envelope_at r t) (λ r. seal_at r t)
      (λ r. seal_at r t) kept.tenders undecided (λ r. refl) (λ r. refl);
  named = named_same readings.digest xs x none (λ s. security_at s t) (λ s. security_at s t) kept.named held (λ s. refl);
}

pub all_append : {X : Type 0} (P : X → Type 0) (xs ys : List X) → AllByRecursion P xs → AllByRecursion P ys → AllByRecursion P (xs ++ ys)
all_append P [] ys h k = k
all_append P (x ∷ xs) ys h k = (h.0, all_append P xs ys h.1 k)

pub all_of_map : {X Y : Type 0} (P : Y → Type 0) (f : X → Y) (xs : List X) → ((x : X) → P (f x)) → AllByRecursion P (map f xs)
all_of_map P f [] h = tt
all_of_map P f (x ∷ xs) h = (h x, all_of_map P f xs h)

-- the state of a found notice is the one that the fates see
pub notice_stands : (t : Tables) (k : List ℕ) (n : NoticeRow) → notice_at k t ≡ Some n → (seen t).notice_at n.notice ≡ Some n.state
notice_stands t k n found =
    ap (λ k. option_map notice_state (notice_at k t)) (found_key keyed.notices t.notices k n found) ∙ ap (option_map notice_state) found

pub contract_notice : (t : Tables) (o : Option ContractRow) (n : NoticeRow) → notice_of_contract o t ≡ Some n → (seen t).notice_at n.notice ≡ Some n.state
contract_notice t None n found = let no : None ≡ Some n = found in cc
contract_notice t (Some c) n found = notice_stands t c.notice n found

-- the state of the notice, if there is one, is the one that the fates see
abbrev pub Stands : View → Option NoticeRow → Type 0
Stands V o = (n : NoticeRow) → o ≡ Some n → V.notice_at n.notice ≡ Some n.state

-- the put of a release keeps the facts about fates
pub publication_keeps : (readings : Readings) (xs : List Given) (t : Tables) (p : Option ReleaseRow) → HaveFates readings xs t
    → HaveFates readings xs (after_puts (publication_puts p) t)
publication_keeps readings xs t None kept = kept
publication_keeps readings xs t (Some p) kept = kept_after readings xs (publication_puts (Some p)) t (tt, tt) kept
