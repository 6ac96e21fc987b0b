-- A command that a request asks for can be given: no two lots of a new notice have the same identifier.
use Rattle.office_requests.proofs.Names.{◌≡◌, ℕ, Bool, true, false, List, Some, None, Result, Ok, Err, refl, sym, subst, ◌⊎◌, inl, inr, ◌^◌, not, ◌&&◌, nat_le, length, if◌then◌else◌, IfOk, Data, Refusal, Forbidden, Unavailable, IsCommand, repeats_id, lot_id, BudgetRow, Caller, CommandKind, NewLot, Criteria, LateWithdrawal, NewNotice, RequestView, CanBeAsked, WhatIsAskedCanBeGiven, asked_by_route, asked_by, command_at, may_ask, import_of, registration_in, notice_amendment_in, cancellation_in, examination_in, contract_amendment_in, payment_in, ending_in, sealed_in, ◌>>=◌, field_or_refusal, text_in, text_line_in, flag_in, number_in, perhaps_number_in, identifier_of, digest_of, change_of, moment_of, query_of, security_in, criteria_in, late_in, performance_in, distinct, lots_in, new_notice_in, publication_in, Asked, Endpoint, Commands, Queries, Named, Within, Numbered, Route}
use Rattle.office_values.specs.declared.refusal.Field.TheVariants as fields
use Rattle.office_commands.specs.declared.command.CommandKind.TheVariants as kinds
use Rattle.office_commands.specs.declared.commands.Command.TheVariants as commands
use Rattle.office_requests.specs.declared.route.Place.{Place}

-- the read value has the property, or a refusal was read
unfoldable IsRead : {A : Type 0} → (A → Type 0) → Result A Refusal → Type 0
IsRead P (Ok value) = P value
IsRead P (Err why) = Unit {0}

value_read : {A : Type 0} (P : A → Type 0) (value : A) → P value → IsRead P (Ok value)
unfolding IsRead
value_read P value is = is

why_read : {A : Type 0} (P : A → Type 0) (why : Refusal) → IsRead P (Err why)
unfolding IsRead
why_read P why = tt

-- a step whose value doesn't matter
bound : {A B : Type 0} (P : B → Type 0) (read : Result A Refusal) (next : A → Result B Refusal) → ((value : A) → IsRead P (next value))
    → IsRead P (read >>= next)
bound P (Ok value) next each = each value
bound P (Err why) next each = why_read P why

bound_by : {A B : Type 0} (Q : A → Type 0) (P : B → Type 0) (read : Result A Refusal) (next : A → Result B Refusal)
    → IsRead Q read → ((value : A) → Q value → IsRead P (next value)) → IsRead P (read >>= next)
unfolding IsRead
bound_by Q P (Ok value) next is each = each value is
bound_by Q P (Err why) next is each = tt

-- several steps that don't need the values of earlier steps
bound_two : {A B C : Type 0} (P : C → Type 0) (first : Result A Refusal) (second : Result B Refusal) (next : A → B → Result C Refusal)
    → ((a : A) (b : B) → IsRead P (next a b)) → IsRead P (first >>= λ a. second >>= λ b. next a b)
bound_two P first second next each = bound P first (λ a. second >>= λ b. next a b) (λ a. bound P second (next a) (each a))

bound_three : {A B C D : Type 0} (P : D → Type 0) (first : Result A Refusal) (second : Result B Refusal) (third : Result C Refusal)
    (next : A → B → C → Result D Refusal) → ((a : A) (b : B) (c : C) → IsRead P (next a b c))
    → IsRead P (first >>= λ a. second >>= λ b. third >>= λ c. next a b c)
bound_three P first second third next each =
    bound P first (λ a. second >>= λ b. third >>= λ c. next a b c) (λ a. bound_two P second third (next a) (each a))

bound_four : {A B C D E : Type 0} (P : E → Type 0) (first : Result A Refusal) (second : Result B Refusal) (third : Result C Refusal) (fourth : Result D Refusal)
    (next : A → B → C → D → Result E Refusal) → ((a : A) (b : B) (c : C) (d : D) → IsRead P (next a b c d))
    → IsRead P (first >>= λ a. second >>= λ b. third >>= λ c. fourth >>= λ d. next a b c d)
bound_four P first second third fourth next each =
    bound P first (λ a. second >>= λ b. third >>= λ c. fourth >>= λ d. next a b c d) (λ a. bound_three P second third fourth (next a) (each a))

bound_five : {A B C D E F : Type 0} (P : F → Type 0) (first : Result A Refusal) (second : Result B Refusal) (third : Result C Refusal)
    (fourth : Result D Refusal) (fifth : Result E Refusal) (next : A → B → C → D → E → Result F Refusal)
    → ((a : A) (b : B) (c : C) (d : D) (e : E) → IsRead P (next a b c d e))
    → IsRead P (first >>= λ a. second >>= λ b. third >>= λ c. fourth >>= λ d. fifth >>= λ e. next a b c d e)
bound_five P first second third fourth fifth next each =
    bound P first (λ a. second >>= λ b. third >>= λ c. fourth >>= λ d. fifth >>= λ e. next a b c d e)
    (λ a. bound_four P second third fourth fifth (next a) (each a))

where_so : {A : Type 0} (P : A → Type 0) (so : Bool) (read : Result A Refusal) (why : Refusal) → IsRead P read → IsRead P (if so then read else Err why)
where_so P true read why is = is
where_so P false read why is = why_read P why

-- The lots of a new notice.

abbrev AreDistinct : List NewLot → Type 0
AreDistinct lots = repeats_id lot_id lots ≡ false

distinct_if : (lots : List NewLot) (some repeats : Bool) → repeats_id lot_id lots ≡ repeats
    → IsRead AreDistinct (field_or_refusal fields.Lots (if some && not repeats then Some lots else None))
unfolding field_or_refusal
distinct_if lots true true is = why_read AreDistinct _
distinct_if lots true false is = value_read AreDistinct lots is
distinct_if lots false repeats is = why_read AreDistinct _

distinct_lots : (lots : List NewLot) → IsRead AreDistinct (distinct lot_id lots)
distinct_lots lots = distinct_if lots (nat_le 1 (length lots)) (repeats_id lot_id lots) refl

lots_read : (body : Data) → IsRead AreDistinct (lots_in body)
unfolding lots_in
lots_read body = bound AreDistinct _ _ (λ lots. distinct_lots lots)

abbrev HasDistinct : NewNotice → Type 0
HasDistinct content = AreDistinct content.lots

abbrev with_lots : Data → List ℕ → ℕ → ℕ → ℕ → Criteria → LateWithdrawal → ℕ → Result NewNotice Refusal
with_lots body title deadline validity standstill criteria late performance =
    lots_in body
    >>= λ lots. Ok (record { title = title; deadline = deadline; validity = validity; standstill = standstill; criteria = criteria; late_withdrawal = late; performance = performance; lots = lots })

lots_distinct : (body : Data) (title : List ℕ) (deadline validity standstill : ℕ) (criteria : Criteria) (late : LateWithdrawal) (performance : ℕ)
    → IsRead HasDistinct (with_lots body title deadline validity standstill criteria late performance)
lots_distinct body title deadline validity standstill criteria late performance =
    bound_by AreDistinct HasDistinct (lots_in body)
    (λ lots. Ok (record { title = title; deadline = deadline; validity = validity; standstill = standstill; criteria = criteria; late_withdrawal = late; performance = performance; lots = lots }))
    (lots_read body) (λ lots distinct. value_read HasDistinct _ distinct)

notice_read : (body : Data) → IsRead HasDistinct (new_notice_in body)
unfolding new_notice_in
notice_read body =
    bound_five HasDistinct (text_line_in fields.Title body) (text_in moment_of fields.Deadline body) (number_in 1 365 fields.ValidityDays body)
    (number_in 0 90 fields.StandstillDays body) (criteria_in body)
    (λ title deadline validity standstill criteria. late_in body >>= λ late. performance_in body >>= with_lots body title deadline validity standstill criteria late)
    (λ title deadline validity standstill criteria.
    bound_two HasDistinct (late_in body) (performance_in body) (with_lots body title deadline validity standstill criteria) (lots_distinct body title deadline validity standstill criteria))

publication_read : (notice : List ℕ) (body : Data) → IsRead IsCommand (publication_in notice body)
publication_read notice body = bound_by HasDistinct IsCommand _ _ (notice_read body) (λ content distinct. value_read IsCommand _ distinct)

-- The other commands.

import_read : (batch : List ℕ) (rows : Result (List BudgetRow) ℕ) → IsRead IsCommand (import_of batch rows)
import_read batch (Ok rows) = value_read IsCommand _ tt
import_read batch (Err number) = why_read IsCommand _

registration_read : (tenderer : List ℕ) (body : Data) → IsRead IsCommand (registration_in tenderer body)
unfolding registration_in
registration_read tenderer body =
    bound_three IsCommand (text_line_in fields.Name body) (text_line_in fields.Address body) (text_in digest_of fields.Key body)
    (λ name address key. Ok (commands.Register tenderer name address key))
    (λ name address key. value_read IsCommand (commands.Register tenderer name address key) tt)

notice_amendment_read : (notice : List ℕ) (body : Data) → IsRead IsCommand (notice_amendment_in notice body)
unfolding notice_amendment_in
notice_amendment_read notice body =
    bound_two IsCommand (text_in moment_of fields.Deadline body) (text_line_in fields.Rationale body)
    (λ deadline rationale. Ok (commands.AmendNotice notice deadline rationale))
    (λ deadline rationale. value_read IsCommand (commands.AmendNotice notice deadline rationale) tt)

cancellation_read : (notice : List ℕ) (body : Data) → IsRead IsCommand (cancellation_in notice body)
unfolding cancellation_in
cancellation_read notice body = bound IsCommand _ _ (λ rationale. value_read IsCommand _ tt)

examination_read : (receipt : ℕ) (body : Data) → IsRead IsCommand (examination_in receipt body)
unfolding examination_in
examination_read receipt body =
    bound_two IsCommand (flag_in fields.Responsive body) (perhaps_number_in 0 100 fields.Quality body)
    (λ responsive quality. Ok (commands.Examine receipt responsive quality))
    (λ responsive quality. value_read IsCommand (commands.Examine receipt responsive quality) tt)

contract_amendment_read : (contract : ℕ) (body : Data) → IsRead IsCommand (contract_amendment_in contract body)
unfolding contract_amendment_in
contract_amendment_read contract body =
    bound_four IsCommand (text_in identifier_of fields.Id body) (text_in change_of fields.Kind body) (number_in 1 (10 ^ 12) fields.Amount body)
    (text_line_in fields.Rationale body)
    (λ entry kind amount rationale. Ok (commands.AmendContract contract entry kind amount rationale))
    (λ entry kind amount rationale. value_read IsCommand (commands.AmendContract contract entry kind amount rationale) tt)

payment_read : (contract : ℕ) (body : Data) → IsRead IsCommand (payment_in contract body)
unfolding payment_in
payment_read contract body =
    bound_two IsCommand (text_in identifier_of fields.Id body) (number_in 1 (10 ^ 12) fields.Amount body)
    (λ entry amount. Ok (commands.Pay contract entry amount)) (λ entry amount. value_read IsCommand (commands.Pay contract entry amount) tt)

ending_read : (contract : ℕ) (body : Data) → IsRead IsCommand (ending_in contract body)
unfolding ending_in
ending_read contract body = bound IsCommand _ _ (λ how. value_read IsCommand _ tt)

command_read : (kind : CommandKind) (place : Place) (query body : List ℕ) → IsRead IsCommand (command_at kind place query body)
unfolding command_at
command_read kinds.Import (Named name) query body = import_read name _
command_read kinds.Register (Named name) query body = bound IsCommand _ _ (λ value. registration_read name value)
command_read kinds.Publish (Named name) query body = bound IsCommand _ _ (λ value. publication_read name value)
command_read kinds.AmendNotice (Named name) query body = bound IsCommand _ _ (λ value. notice_amendment_read name value)
command_read kinds.Cancel (Named name) query body = bound IsCommand _ _ (λ value. cancellation_read name value)
command_read kinds.Open (Named name) query body = value_read IsCommand _ tt
command_read kinds.Present (Within notice lot) query body =
    bound_two IsCommand (security_in query) (sealed_in body)
    (λ security sealed. Ok (commands.Present notice lot security sealed))
    (λ security sealed. value_read IsCommand (commands.Present notice lot security sealed) tt)
command_read kinds.Modify (Numbered number) query body = bound IsCommand _ _ (λ sealed. value_read IsCommand _ tt)
command_read kinds.Withdraw (Numbered number) query body = value_read IsCommand _ tt
command_read kinds.Examine (Numbered number) query body = bound IsCommand _ _ (λ value. examination_read number value)
command_read kinds.Award (Within notice lot) query body = value_read IsCommand _ tt
command_read kinds.Fail (Numbered number) query body = value_read IsCommand _ tt
command_read kinds.Sign (Numbered number) query body = bound IsCommand _ _ (λ named. value_read IsCommand _ tt)
command_read kinds.AmendContract (Numbered number) query body = bound IsCommand _ _ (λ value. contract_amendment_read number value)
command_read kinds.Pay (Numbered number) query body = bound IsCommand _ _ (λ value. payment_read number value)
command_read kinds.End (Numbered number) query body = bound IsCommand _ _ (λ value. ending_read number value)
command_read _ _ query body = why_read IsCommand _

by_read : (endpoint : Endpoint) (place : Place) (query body : List ℕ) → IsRead CanBeAsked (asked_by endpoint place query body)
unfolding asked_by
by_read (Commands kind) place query body = bound_by IsCommand CanBeAsked _ _ (command_read kind place query body) (λ command is. value_read CanBeAsked _ is)
by_read (Queries kind) place query body = bound CanBeAsked _ _ (λ look. value_read CanBeAsked _ tt)

if_read : (read : Result Asked Refusal) → IsRead CanBeAsked read → IfOk read CanBeAsked
unfolding IsRead
if_read (Ok asked) is = is
if_read (Err why) is = tt

pub asked_is : WhatIsAskedCanBeGiven
asked_is caller route request =
    if_read (asked_by_route caller route request)
    (where_so CanBeAsked (may_ask caller route.endpoint) (asked_by route.endpoint route.place (query_of request.head.target) request.body) Forbidden
    (by_read route.endpoint route.place (query_of request.head.target) request.body))

-- a command that was read can be given, even if memory was too small for the rest
pub read_is : (caller : Caller) (route : Route) (request : RequestView) (read : Result Asked Refusal)
    → (read ≡ asked_by_route caller route request) ⊎ (read ≡ Err Unavailable) → IfOk read CanBeAsked
read_is caller route request read (inl is) = subst (λ (r : Result Asked Refusal). IfOk r CanBeAsked) (sym is) (asked_is caller route request)
read_is caller route request read (inr is) = subst (λ (r : Result Asked Refusal). IfOk r CanBeAsked) (sym is) tt
