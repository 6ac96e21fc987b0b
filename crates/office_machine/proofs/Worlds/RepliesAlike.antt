-- The replies of two worlds are alike.
use Rattle.office_machine.proofs.Names.{◌≡◌, ℕ, suc, ◌+◌, Bool, true, false, cond, ◌&&◌, List, [], ◌∷◌, length, filter, Option, Some, None, option_map, refl, sym, ◌∙◌, ap, subst, same_id, Caller, Public, Clerk, Tenderer, is_by, is_tenderer, may_look, Command, Forbidden, NotYourTender, notice_of_envelope, late_of_envelope, is_late, is_opened, TendererRow, NoticeRow, LotRow, EnvelopeRow, SealRow, ClockRow, is_sealed_envelope, winner, Tables, find_envelope, notice_at, envelope_at, contract_at, envelopes_of_notice, envelopes_of_lot, lots_of_notice, awards_of_notice, late_at, Readings, ChosenTender, is_theirs, is_for_chosen_lot, AlikeRows, Pairs, AlikeOffices, SameBut, Same, Presented, Modified, OpensAlike, Query, query_kind_of, Reply, OpenedAll, Received, Awarded, Tender, Registry, Minutes, release_of, release_of_contract, left_of, modify_reply, winning, Withdrew, state_after, reply_for, Packages, tender_told, registered, register_told, minuted, is_read_envelope, minutes_told, own_tenders_told, package_told, shown, told, ButDigest, PackagesHideSeals, without_digest, ToldAlike, equal_ids, same_itself}
use Rattle.office_commands.specs.declared.commands.Command.TheVariants as commands
use Rattle.office_base.specs.declared.records.EnvelopeState.TheVariants as envelope_states
use Rattle.office_commands.specs.declared.queries.Query.TheVariants as queries
use Rattle.office_machine.specs.Replies.{Refused, OfContract}
use Rattle.office_machine.proofs.Worlds.TendersShown.{pairs-same, evaluation_same, others_own, own_but_digest}
use Rattle.office_machine.proofs.Worlds.WorldsPut.{Alike, AlikeOptions, blind-option, pairs-filter}
use Rattle.office_machine.proofs.Worlds.WorldsRows.{envelope_pair, lot_pairs, notice_pairs, pairs-winner}

pub told_same : (th : ChosenTender) (caller : Caller) (r r' : Reply) → r' ≡ r → ToldAlike th caller r r'
told_same th caller r r' e = record { others = λ _. e; but_digest = ap without_digest e }

pub but_digests : (th : ChosenTender) (es es' : List EnvelopeRow) → Pairs (AlikeRows th) es es' → Pairs ButDigest es es'
but_digests th [] [] all = tt
but_digests th [] (e' ∷ es') all = absurd all
but_digests th (e ∷ es) [] all = absurd all
but_digests th (e ∷ es) (e' ∷ es') all = (all.0.but_digest, but_digests th es es' all.1)

-- no caller both is and isn't the chosen tenderer
own_call : (th : ChosenTender) (caller : Caller) {A : Type 0} → Tenderer th.who ≡ caller → is_by caller th.who ≡ false → A
own_call th caller who out = absurd (let clash : true ≡ false = sym (same_itself th.who) ∙ (ap (λ c. is_by c th.who) who ∙ out) in cc)

-- a tender that another caller may see isn't one of the chosen tenderer
not_theirs : (th : ChosenTender) (caller : Caller) (e : EnvelopeRow) → is_by caller e.tenderer ≡ true → is_by caller th.who ≡ false → is_theirs th e ≡ false
not_theirs th Public e mine out = cc
not_theirs th Clerk e mine out = cc
not_theirs th (Tenderer id) e mine out = ap (λ k. same_id k th.who && is_for_chosen_lot th e) (sym (equal_ids id e.tenderer mine)) ∙ ap (λ b. b && is_for_chosen_lot th e) out

tender_by : (th : ChosenTender) (caller : Caller) (e : EnvelopeRow) (d : List ℕ) → (is_theirs th e ≡ false → d ≡ e.digest) → (b : Bool) → is_by caller e.tenderer ≡ b
    → ToldAlike th caller (cond b (Tender e.digest e.length e.notice e.lot e.moment e.receipt e.security e.state) (Refused NotYourTender)) (cond b (Tender d e.length e.notice e.lot e.moment e.receipt e.security e.state) (Refused NotYourTender))
tender_by th caller e d same true h = record {
  others = λ out. ap (λ d. Tender d e.length e.notice e.lot e.moment e.receipt e.security e.state) (same (not_theirs th caller e h out));
  but_digest = refl;
}
tender_by th caller e d same false h = told_same th caller (Refused NotYourTender) (Refused NotYourTender) refl

module _ (th : ChosenTender) (W : ℕ → Bool) where
  tender_alike : (caller : Caller) (o o' : Option EnvelopeRow) → AlikeOptions th W o o' → ToldAlike th caller (tender_told caller o) (tender_told caller o')
  tender_alike caller None None a = told_same th caller (tender_told caller None) (tender_told caller None) refl
  tender_alike caller None (Some e') a = absurd a
  tender_alike caller (Some e) None a = absurd a
  tender_alike caller (Some e) (Some e') a =
      subst (λ (x : EnvelopeRow). ToldAlike th caller (tender_told caller (Some e)) (tender_told caller (Some x))) (sym a.rows.but_digest)
      (tender_by th caller e e'.digest a.rows.digest (is_by caller e.tenderer) refl)

  pairs-length : (es es' : List EnvelopeRow) → Pairs (Alike th W) es es' → length es' ≡ length es
  pairs-length [] [] all = refl
  pairs-length [] (e' ∷ es') all = absurd all
  pairs-length (e ∷ es) [] all = absurd all
  pairs-length (e ∷ es) (e' ∷ es') all = ap (λ n. suc n) (pairs-length es es' all.1)

  register_same : (o : Option NoticeRow) (es es' : List EnvelopeRow) → Pairs (Alike th W) es es' → register_told o es' ≡ register_told o es
  register_same None es es' all = refl
  register_same (Some n) es es' all = ap (Registry n.notice) (pairs-same th W registered (λ _ _. refl) es es' all)

  minutes_same : (o : Option NoticeRow) (lots : List LotRow) (tenderers : List TendererRow) (es es' : List EnvelopeRow) → Pairs (Alike th W) es es' → minutes_told o lots tenderers es' ≡ minutes_told o lots tenderers es
  minutes_same None lots tenderers es es' all = refl
  minutes_same (Some n) lots tenderers es es' all =
      ap (λ rows. cond (is_opened n.state) (Minutes n lots rows) (Refused Rattle.office_values.specs.declared.refusal.Refusal.TheVariants.NotOpened))
      (pairs-same th W (minuted tenderers) (λ _ _. refl) (filter is_read_envelope es) (filter is_read_envelope es') (pairs-filter th W is_read_envelope (λ _ _. refl) es es' all))

  modified_told : (readings : Readings) (clock : ClockRow) (t : ℕ) (bytes bytes' : List ℕ) (o o' : Option EnvelopeRow) → AlikeOptions th W o o'
      → without_digest (modify_reply readings clock t bytes' o') ≡ without_digest (modify_reply readings clock t bytes o)
  modified_told readings clock t bytes bytes' None None a = refl
  modified_told readings clock t bytes bytes' None (Some e') a = absurd a
  modified_told readings clock t bytes bytes' (Some e) None a = absurd a
  modified_told readings clock t bytes bytes' (Some e) (Some e') a = ap (λ (e : EnvelopeRow). Received [] (clock.receipts + 1) e.security envelope_states.Sealed t) a.rows.but_digest

  module _ (s : Tables) (es' : List EnvelopeRow) (ss' : List SealRow) (all : Pairs (Alike th W) s.envelopes es') where
    abbrev other : Tables
    other = record s { envelopes = es'; seals = ss' }

    own_alike : (caller : Caller) (o : Option NoticeRow) (lots : List LotRow) → is_tenderer caller ≡ true → ToldAlike th caller (own_tenders_told caller s o lots) (own_tenders_told caller other o lots)
    own_alike Public o lots may = absurd (cc)
    own_alike Clerk o lots may = absurd (cc)
    own_alike (Tenderer id) o lots may = record {
      others = λ out. others_own th W s es' ss' all id out o lots;
      but_digest = own_but_digest th W s es' ss' all (Tenderer id) o lots;
    }

    shown_alike : (packages : Packages) → PackagesHideSeals packages → Pairs ButDigest s.envelopes es' → (caller : Caller) (query : Query) → may_look caller (query_kind_of query) ≡ true
        → ToldAlike th caller (shown packages s caller query) (shown packages other caller query)
    shown_alike packages blindly rows caller (queries.Line line) may = told_same th caller (shown packages s caller (queries.Line line)) (shown packages other caller (queries.Line line)) refl
    shown_alike packages blindly rows caller queries.Ledger may = told_same th caller (shown packages s caller queries.Ledger) (shown packages other caller queries.Ledger) refl
    shown_alike packages blindly rows caller (queries.Minutes notice) may =
        told_same th caller (shown packages s caller (queries.Minutes notice)) (shown packages other caller (queries.Minutes notice))
        (minutes_same (notice_at notice s) (lots_of_notice notice s) s.tenderers (envelopes_of_notice notice s) (envelopes_of_notice notice other) (notice_pairs th W s es' all notice))
    shown_alike packages blindly rows caller (queries.Register notice) may =
        told_same th caller (shown packages s caller (queries.Register notice)) (shown packages other caller (queries.Register notice))
        (register_same (notice_at notice s) (envelopes_of_notice notice s) (envelopes_of_notice notice other) (notice_pairs th W s es' all notice))
    shown_alike packages blindly rows caller (queries.Releases notice) may =
        told_same th caller (shown packages s caller (queries.Releases notice)) (shown packages other caller (queries.Releases notice))
        (ap (package_told (notice_at notice s)) (blindly (queries.Releases notice) s es' ss' rows))
    shown_alike packages blindly rows caller (queries.Record notice) may =
        told_same th caller (shown packages s caller (queries.Record notice)) (shown packages other caller (queries.Record notice))
        (ap (package_told (notice_at notice s)) (blindly (queries.Record notice) s es' ss' rows))
    shown_alike packages blindly rows caller (queries.Tender receipt) may = tender_alike caller (envelope_at receipt s) (find_envelope es' receipt) (envelope_pair th W s es' all receipt)
    shown_alike packages blindly rows caller (queries.Security security) may =
        told_same th caller (shown packages s caller (queries.Security security)) (shown packages other caller (queries.Security security)) refl
    shown_alike packages blindly rows caller (queries.Performance contract) may =
        told_same th caller (shown packages s caller (queries.Performance contract)) (shown packages other caller (queries.Performance contract)) refl
    shown_alike packages blindly rows caller (queries.Notices after) may =
        told_same th caller (shown packages s caller (queries.Notices after)) (shown packages other caller (queries.Notices after)) refl
    shown_alike packages blindly rows caller (queries.Terms notice) may =
        told_same th caller (shown packages s caller (queries.Terms notice)) (shown packages other caller (queries.Terms notice)) refl
    shown_alike packages blindly rows caller (queries.OwnTenders notice) may = own_alike caller (notice_at notice s) (lots_of_notice notice s) may
    shown_alike packages blindly rows caller (queries.Evaluation notice) may =
        told_same th caller (shown packages s caller (queries.Evaluation notice)) (shown packages other caller (queries.Evaluation notice))
        (evaluation_same th W s es' ss' all caller (notice_at notice s) (lots_of_notice notice s) (awards_of_notice notice s))
    shown_alike packages blindly rows caller (queries.Securities notice) may =
        told_same th caller (shown packages s caller (queries.Securities notice)) (shown packages other caller (queries.Securities notice)) refl
    shown_alike packages blindly rows caller (queries.Tenderers after) may =
        told_same th caller (shown packages s caller (queries.Tenderers after)) (shown packages other caller (queries.Tenderers after)) refl
    shown_alike packages blindly rows caller (queries.Contract contract) may =
        told_same th caller (shown packages s caller (queries.Contract contract)) (shown packages other caller (queries.Contract contract)) refl

    told_if : (caller : Caller) (b : Bool) (r r' : Reply) → (b ≡ true → ToldAlike th caller r r') → ToldAlike th caller (cond b r (Refused Forbidden)) (cond b r' (Refused Forbidden))
    told_if caller true r r' a = a refl
    told_if caller false r r' a = told_same th caller (Refused Forbidden) (Refused Forbidden) refl

    -- the replies to a query are alike
    pub query_told : (packages : Packages) → PackagesHideSeals packages → Pairs ButDigest s.envelopes es' → (caller : Caller) (query : Query) → ToldAlike th caller (told packages s caller query) (told packages other caller query)
    query_told packages blindly rows caller query =
        told_if caller (may_look caller (query_kind_of query)) (shown packages s caller query) (shown packages other caller query) (shown_alike packages blindly rows caller query)

    module _ (readings : Readings) (u u' : Tables) (t : ℕ) (caller : Caller) where
      abbrev LeavesAlike : Command → Type 0
      LeavesAlike command = OpensAlike command s other → AlikeOffices th u u'

      left_same : (contract release : ℕ) → AlikeOffices th u u' → OfContract contract (left_of (contract_at contract u') u'.entries) release t ≡ OfContract contract (left_of (contract_at contract u) u.entries) release t
      left_same contract release a = ap (λ (v : Tables). OfContract contract (left_of (contract_at contract v) v.entries) release t) a.but_sealed

      -- the replies to one command are equal
      same_reply : (command : Command) → LeavesAlike command → reply_for readings other u' t caller command ≡ reply_for readings s u t caller command
      same_reply (commands.Open notice) after =
          ap (λ n. OpenedAll notice n (release_of s.notices notice) t) (pairs-length (filter is_sealed_envelope (envelopes_of_notice notice s)) (filter is_sealed_envelope (envelopes_of_notice notice other))
          (pairs-filter th W is_sealed_envelope (λ _ _. refl) (envelopes_of_notice notice s) (envelopes_of_notice notice other) (notice_pairs th W s es' all notice)))
      same_reply (commands.Modify receipt bytes) after = blind-option th W (modify_reply readings s.clock t bytes) (λ _ _. refl) (envelope_at receipt s) (find_envelope es' receipt) (envelope_pair th W s es' all receipt)
      same_reply (commands.Withdraw receipt) after =
          blind-option th W (λ o. Withdrew receipt (state_after (is_late (late_of_envelope o s) t (notice_of_envelope o s)) o) t) (λ e d. ap (λ st. Withdrew receipt st t) (same_state (is_late (late_at e.notice s) t (notice_at e.notice s)) e d)) (envelope_at receipt s) (find_envelope es' receipt) (envelope_pair th W s es' all receipt)
        where
          same_state : (b : Bool) (e : EnvelopeRow) (d : List ℕ) → state_after b (Some (record e { digest = d })) ≡ state_after b (Some e)
          same_state true e d = refl
          same_state false e d = refl
      same_reply (commands.Award notice lot) after =
          blind-option th W (λ o. Awarded lot (option_map (winning s.clock) o) (release_of s.notices notice) t) (λ _ _. refl) (winner (notice_at notice s) (envelopes_of_lot notice lot s)) (winner (notice_at notice s) (envelopes_of_lot notice lot other))
          (pairs-winner th W (notice_at notice s) (envelopes_of_lot notice lot s) (envelopes_of_lot notice lot other) (lot_pairs th W s es' all notice lot))
      same_reply (commands.AmendContract contract entry kind amount rationale) after = left_same contract (release_of_contract (contract_at contract s) s.notices) (after tt)
      same_reply (commands.Pay contract entry amount) after = left_same contract (release_of_contract (contract_at contract s) s.notices) (after tt)
      same_reply (commands.End contract how) after = left_same contract (release_of_contract (contract_at contract s) s.notices) (after tt)
      same_reply _ after = refl

      -- the replies to two commands that differ only in such bytes are alike
      pub command_told : (command command' : Command) → SameBut th s caller command command' → LeavesAlike command → ToldAlike th caller (reply_for readings s u t caller command) (reply_for readings other u' t caller command')
      command_told command command' (Same e) after =
          subst (λ c. ToldAlike th caller (reply_for readings s u t caller command) (reply_for readings other u' t caller c)) e
          (told_same th caller (reply_for readings s u t caller command) (reply_for readings other u' t caller command) (same_reply command after))
      command_told command command' (Presented security bytes bytes' len who is is') after =
          subst (λ c. ToldAlike th caller (reply_for readings s u t caller c) (reply_for readings other u' t caller command')) is
          (subst (λ c. ToldAlike th caller (reply_for readings s u t caller (commands.Present th.notice th.lot security bytes)) (reply_for readings other u' t caller c)) is'
          (record { others = λ out. own_call th caller who out; but_digest = refl }))
      command_told command command' (Modified receipt bytes bytes' len who lot is is') after =
          subst (λ c. ToldAlike th caller (reply_for readings s u t caller c) (reply_for readings other u' t caller command')) is
          (subst (λ c. ToldAlike th caller (reply_for readings s u t caller (commands.Modify receipt bytes)) (reply_for readings other u' t caller c)) is'
          (record { others = λ out. own_call th caller who out; but_digest = modified_told readings s.clock t bytes bytes' (envelope_at receipt s) (find_envelope es' receipt) (envelope_pair th W s es' all receipt) }))
