-- Nothing depends on the merges that are stored beside the office.
use Rattle.office_machine.proofs.Names.{◌≡◌, ℕ, ◌+◌, cond, not, ◌&&◌, List, [], ◌∷◌, ◌++◌, Option, Some, None, refl, sym, ◌∙◌, ap, subst, option_and_then, option_map, Caller, Command, Import, Modify, Withdraw, Query, query_kind_of, may_look, Refusal, Forbidden, Put, CompiledRow, first_of, Tables, same_number, notice_at, after_put, after_puts, Reception, received_by, received_at, received_after, fate_after, fate_of_tender, is_effective, tender_decided, Given, Means, done, effect, may_give, next, publication, publication_puts, puts_of, refusal_of, release_row, time_of, with_merges, FatesReadNoMerges, LooksReadNoMerges, NextReadsNoMerges, PublishesNoMerges, PutsReadNoMerges, RefusalsReadNoMerges, RepliesReadNoMerges, ShowsNoMerges, bare, beside, published_for, Readings, Reply, reply_by, Rule, rule_of, Packages, package_told, shown}
use Rattle.office_commands.specs.declared.queries.Query.TheVariants as queries
use Rattle.office_base.specs.declared.puts.Put.TheVariants as puts
use Rattle.office_base.specs.declared.records.EnvelopeState.TheVariants as envelope_states
use Rattle.office_machine.specs.Replies.{Refused}

-- A put changes the rest of the office as it does without the merges.

put_beside : (merges : List CompiledRow) (p : Put) (s : Tables) → after_put p (with_merges merges s) ≡ with_merges (after_put p (with_merges merges s)).compiled (after_put p s)
put_beside merges (puts.Line r) s = refl
put_beside merges _ s = refl

puts_beside : (ps : List Put) (merges : List CompiledRow) (s : Tables)
    → after_puts ps (with_merges merges s) ≡ with_merges (after_puts ps (with_merges merges s)).compiled (after_puts ps s)
puts_beside [] merges s = refl
puts_beside (p ∷ ps) merges s =
    subst (λ (u : Tables). after_puts ps u ≡ with_merges (after_puts ps u).compiled (after_puts ps (after_put p s))) (sym (put_beside merges p s))
    (puts_beside ps (after_put p (with_merges merges s)).compiled (after_put p s))

-- Commands.

-- a rule, with the merges beside the office before it and after it; `lacks` looks for a merge that is left over, and no step reads it
abbrev pub past_merges : List CompiledRow → List CompiledRow → Rule → Rule
past_merges before after rule = record {
  tests = λ s. rule.tests (with_merges before s);
  lacks = rule.lacks;
  puts = λ readings s. rule.puts readings (with_merges before s);
  publishes = rule.publishes;
  reply = λ readings s u. rule.reply readings (with_merges before s) (with_merges after u);
}

rules_apart : (before after : List CompiledRow) (command : Command) → past_merges before after (rule_of command) ≡ rule_of command
rules_apart before after (Import batch rows) = refl
rules_apart before after _ = refl

pub refusals_apart : RefusalsReadNoMerges
refusals_apart merges x =
    ap (λ (rule : Rule). first_of ((not (may_give x.caller x.command), Forbidden) ∷ rule.tests x.before (time_of x) x.caller)) (rules_apart merges merges x.command)

module _ (readings : Readings) (merges : List CompiledRow) (x : Given) where
  effect_apart : effect readings (beside merges x) ≡ effect readings x
  effect_apart = ap (λ (rule : Rule). rule.puts readings x.before (time_of x) x.caller) (rules_apart merges merges x.command)

  done_apart : done readings (beside merges x) ≡ with_merges (after_puts (effect readings x) (with_merges merges x.before)).compiled (done readings x)
  done_apart = ap (λ ps. after_puts ps (with_merges merges x.before)) effect_apart ∙ puts_beside (effect readings x) merges x.before

  abbrev told_apart : Rule → Reply
  told_apart rule = rule.reply readings x.before (done readings x) (time_of x) x.caller

module _ (means : Means) (merges : List CompiledRow) (x : Given) where
  reply_apart : (why : Option Refusal) → reply_by why means (beside merges x) ≡ reply_by why means x
  reply_apart None =
      ap (λ u. (rule_of x.command).reply means.readings (with_merges merges x.before) u (time_of x) x.caller) (done_apart means.readings merges x)
      ∙ ap (told_apart means.readings merges x) (rules_apart merges (after_puts (effect means.readings x) (with_merges merges x.before)).compiled x.command)
  reply_apart (Some why) = refl

pub replies_apart : RepliesReadNoMerges
replies_apart means merges x = ap (λ why. reply_by why means (beside merges x)) (refusals_apart merges x) ∙ reply_apart means merges x (refusal_of x)

module _ (means : Means) (publishes : PublishesNoMerges means) (merges : List CompiledRow) (x : Given) where
  publication_apart : publication means (beside merges x) ≡ publication means x
  publication_apart =
      ap (λ text. option_and_then (λ notice. option_map (release_row x notice) text)
      (published_for x.before x.command)) (publishes merges x)

  all_apart : puts_of means (beside merges x) ≡ puts_of means x
  all_apart = λ i. effect_apart means.readings merges x i ++ publication_puts (publication_apart i)

  after_apart : next means (beside merges x) ≡ with_merges (next means (beside merges x)).compiled (next means x)
  after_apart =
      subst (λ (u : Tables). u ≡ with_merges u.compiled (next means x)) (sym (ap (λ ps. after_puts ps (with_merges merges x.before)) all_apart))
      (puts_beside (puts_of means x) merges x.before)

pub puts_apart : PutsReadNoMerges
puts_apart means publishes merges x = all_apart means publishes merges x

pub next_apart : NextReadsNoMerges
next_apart means publishes merges x = after_apart means publishes merges x

-- Queries.

shown_apart : (packages : Packages) → ShowsNoMerges packages → (merges : List CompiledRow) (s : Tables) (caller : Caller) (query : Query)
    → shown packages (with_merges merges s) caller query ≡ shown packages s caller query
shown_apart packages shows merges s caller (queries.Releases notice) = ap (package_told (notice_at notice s)) (shows merges (queries.Releases notice) s)
shown_apart packages shows merges s caller (queries.Record notice) = ap (package_told (notice_at notice s)) (shows merges (queries.Record notice) s)
shown_apart packages shows merges s caller _ = refl

pub looks_apart : LooksReadNoMerges
looks_apart packages shows merges s caller query =
    ap (λ reply. cond (may_look caller (query_kind_of query)) reply (Refused Forbidden)) (shown_apart packages shows merges s caller query)

-- Fates.

effective_apart : (merges : List CompiledRow) (x : Given) (c : Option Reception) → is_effective (beside merges x) c ≡ is_effective x c
effective_apart merges x None = refl
effective_apart merges x (Some c) = refl

module _ (merges : List CompiledRow) (x : Given) (earlier : ℕ → Option Reception) where
  brought_apart : (command : Command) → received_by command (beside merges x) earlier ≡ received_by command x earlier
  brought_apart (Modify receipt bytes) = refl
  brought_apart _ = refl

  decided_apart : (command : Command) (r : ℕ) → tender_decided command (beside merges x) earlier r ≡ tender_decided command x earlier r
  decided_apart (Withdraw receipt) r =
      ap (λ b. cond (same_number r receipt && b) envelope_states.Withdrawn envelope_states.Sealed) (effective_apart merges x (earlier r))
  decided_apart _ r = refl

came_bare : (xs : List Given) (r : ℕ) → received_at (bare xs) r ≡ received_at xs r
came_bare [] r = refl
came_bare (x ∷ xs) r = λ i.
    received_after (came_bare xs r i)
    (cond (same_number r (x.before.clock.receipts + 1))
    ((ap (λ earlier. received_by x.command (beside [] x) earlier) (λ j q. came_bare xs q j) ∙ brought_apart [] x (received_at xs) x.command) i) None)

fate_bare : (xs : List Given) (r : ℕ) → fate_of_tender (bare xs) r ≡ fate_of_tender xs r
fate_bare [] r = refl
fate_bare (x ∷ xs) r = λ i.
    fate_after (fate_bare xs r i) (came_bare (x ∷ xs) r i)
    ((ap (λ earlier. tender_decided x.command (beside [] x) earlier r) (λ j q. came_bare xs q j) ∙ decided_apart [] x (received_at xs) x.command r) i)

pub fates_apart : FatesReadNoMerges
fates_apart xs r = (came_bare xs r, fate_bare xs r)
