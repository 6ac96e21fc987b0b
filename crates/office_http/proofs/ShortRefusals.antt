-- The greatest length of the response to a refusal.
use Rattle.office_http.proofs.Names.{◌≡◌, ℕ, ◌+◌, ◌≤◌, List, ◌++◌, length, Option, None, Some, refl, sym, subst, arith, ◌∙◌, length-append, digits, codes, decimal, option_map, Named, Record, field_name, name_of_refusal, number_of_refusal, status_of_refusal, subject_of_refusal, thing_name, What, Field, Thing, Refusal, BadHead, TooLong, Coding, NoRoute, WrongMethod, BadKey, Forbidden, BadBody, NoSuch, Exists, NotYourTender, DeadlinePassed, DeadlineEarlier, NotOpenForTenders, AlreadyPresented, SecurityMissing, SecurityTooSmall, SecurityNotAsked, NotSealed, TooEarlyToOpen, AlreadyOpened, NotOpened, AlreadyDecided, NotAllExamined, Expired, Standstill, InsufficientFunds, MoreThanOutstanding, ContractEnded, NothingToCancel, LimitReached, Unavailable, Allow, IsShortNumber, allow_field, challenge_field, head_start, json, phrase_of, refusal_body, response_of, what_member}
use Rattle.office_values.specs.Refusals.{told}
use Rattle.office_values.specs.declared.refusal.Field.TheVariants as fields
use Rattle.office_values.specs.declared.refusal.BadPart.TheVariants as parts
use Rattle.office_values.specs.declared.refusal.Thing.TheVariants as things
use Rattle.office_requests.specs.declared.route.Allow.TheVariants as allow
use Rattle.office_http.specs.declared.reply.Reply.TheVariants.{Refused}

-- ---- the parts of a row

name_short : (r : Refusal) → length (name_of_refusal r) ≤ 19
name_short BadHead = omega arith
name_short TooLong = omega arith
name_short Coding = omega arith
name_short NoRoute = omega arith
name_short WrongMethod = omega arith
name_short BadKey = omega arith
name_short Forbidden = omega arith
name_short (BadBody part) = omega arith
name_short (NoSuch thing) = omega arith
name_short Exists = omega arith
name_short NotYourTender = omega arith
name_short DeadlinePassed = omega arith
name_short DeadlineEarlier = omega arith
name_short NotOpenForTenders = omega arith
name_short AlreadyPresented = omega arith
name_short SecurityMissing = omega arith
name_short SecurityTooSmall = omega arith
name_short SecurityNotAsked = omega arith
name_short NotSealed = omega arith
name_short TooEarlyToOpen = omega arith
name_short AlreadyOpened = omega arith
name_short NotOpened = omega arith
name_short AlreadyDecided = omega arith
name_short NotAllExamined = omega arith
name_short Expired = omega arith
name_short Standstill = omega arith
name_short InsufficientFunds = omega arith
name_short MoreThanOutstanding = omega arith
name_short ContractEnded = omega arith
name_short NothingToCancel = omega arith
name_short LimitReached = omega arith
name_short Unavailable = omega arith

number_short : (r : Refusal) → length (decimal (number_of_refusal r)) ≤ 2
unfolding digits
number_short BadHead = omega arith
number_short TooLong = omega arith
number_short Coding = omega arith
number_short NoRoute = omega arith
number_short WrongMethod = omega arith
number_short BadKey = omega arith
number_short Forbidden = omega arith
number_short (BadBody part) = omega arith
number_short (NoSuch thing) = omega arith
number_short Exists = omega arith
number_short NotYourTender = omega arith
number_short DeadlinePassed = omega arith
number_short DeadlineEarlier = omega arith
number_short NotOpenForTenders = omega arith
number_short AlreadyPresented = omega arith
number_short SecurityMissing = omega arith
number_short SecurityTooSmall = omega arith
number_short SecurityNotAsked = omega arith
number_short NotSealed = omega arith
number_short TooEarlyToOpen = omega arith
number_short AlreadyOpened = omega arith
number_short NotOpened = omega arith
number_short AlreadyDecided = omega arith
number_short NotAllExamined = omega arith
number_short Expired = omega arith
number_short Standstill = omega arith
number_short InsufficientFunds = omega arith
number_short MoreThanOutstanding = omega arith
number_short ContractEnded = omega arith
number_short NothingToCancel = omega arith
number_short LimitReached = omega arith
number_short Unavailable = omega arith

status_short : (r : Refusal) → length (decimal (status_of_refusal r)) ≤ 3
unfolding digits
status_short BadHead = omega arith
status_short TooLong = omega arith
status_short Coding = omega arith
status_short NoRoute = omega arith
status_short WrongMethod = omega arith
status_short BadKey = omega arith
status_short Forbidden = omega arith
status_short (BadBody part) = omega arith
status_short (NoSuch thing) = omega arith
status_short Exists = omega arith
status_short NotYourTender = omega arith
status_short DeadlinePassed = omega arith
status_short DeadlineEarlier = omega arith
status_short NotOpenForTenders = omega arith
status_short AlreadyPresented = omega arith
status_short SecurityMissing = omega arith
status_short SecurityTooSmall = omega arith
status_short SecurityNotAsked = omega arith
status_short NotSealed = omega arith
status_short TooEarlyToOpen = omega arith
status_short AlreadyOpened = omega arith
status_short NotOpened = omega arith
status_short AlreadyDecided = omega arith
status_short NotAllExamined = omega arith
status_short Expired = omega arith
status_short Standstill = omega arith
status_short InsufficientFunds = omega arith
status_short MoreThanOutstanding = omega arith
status_short ContractEnded = omega arith
status_short NothingToCancel = omega arith
status_short LimitReached = omega arith
status_short Unavailable = omega arith

phrase_short : (r : Refusal) → length (phrase_of (status_of_refusal r)) ≤ 19
phrase_short BadHead = omega arith
phrase_short TooLong = omega arith
phrase_short Coding = omega arith
phrase_short NoRoute = omega arith
phrase_short WrongMethod = omega arith
phrase_short BadKey = omega arith
phrase_short Forbidden = omega arith
phrase_short (BadBody part) = omega arith
phrase_short (NoSuch thing) = omega arith
phrase_short Exists = omega arith
phrase_short NotYourTender = omega arith
phrase_short DeadlinePassed = omega arith
phrase_short DeadlineEarlier = omega arith
phrase_short NotOpenForTenders = omega arith
phrase_short AlreadyPresented = omega arith
phrase_short SecurityMissing = omega arith
phrase_short SecurityTooSmall = omega arith
phrase_short SecurityNotAsked = omega arith
phrase_short NotSealed = omega arith
phrase_short TooEarlyToOpen = omega arith
phrase_short AlreadyOpened = omega arith
phrase_short NotOpened = omega arith
phrase_short AlreadyDecided = omega arith
phrase_short NotAllExamined = omega arith
phrase_short Expired = omega arith
phrase_short Standstill = omega arith
phrase_short InsufficientFunds = omega arith
phrase_short MoreThanOutstanding = omega arith
phrase_short ContractEnded = omega arith
phrase_short NothingToCancel = omega arith
phrase_short LimitReached = omega arith
phrase_short Unavailable = omega arith

challenge_short : (r : Refusal) → length (challenge_field (status_of_refusal r)) ≤ 30
challenge_short BadHead = omega arith
challenge_short TooLong = omega arith
challenge_short Coding = omega arith
challenge_short NoRoute = omega arith
challenge_short WrongMethod = omega arith
challenge_short BadKey = omega arith
challenge_short Forbidden = omega arith
challenge_short (BadBody part) = omega arith
challenge_short (NoSuch thing) = omega arith
challenge_short Exists = omega arith
challenge_short NotYourTender = omega arith
challenge_short DeadlinePassed = omega arith
challenge_short DeadlineEarlier = omega arith
challenge_short NotOpenForTenders = omega arith
challenge_short AlreadyPresented = omega arith
challenge_short SecurityMissing = omega arith
challenge_short SecurityTooSmall = omega arith
challenge_short SecurityNotAsked = omega arith
challenge_short NotSealed = omega arith
challenge_short TooEarlyToOpen = omega arith
challenge_short AlreadyOpened = omega arith
challenge_short NotOpened = omega arith
challenge_short AlreadyDecided = omega arith
challenge_short NotAllExamined = omega arith
challenge_short Expired = omega arith
challenge_short Standstill = omega arith
challenge_short InsufficientFunds = omega arith
challenge_short MoreThanOutstanding = omega arith
challenge_short ContractEnded = omega arith
challenge_short NothingToCancel = omega arith
challenge_short LimitReached = omega arith
challenge_short Unavailable = omega arith

allow_short : (method : Option Allow) → length (allow_field method) ≤ 13
allow_short None = omega arith
allow_short (Some allow.Get) = omega arith
allow_short (Some allow.Post) = omega arith

-- ---- the subject of a refusal

field_short : (f : Field) → length (what_member (Some (Named (field_name f)))) ≤ 40
field_short fields.Name = omega arith
field_short fields.Address = omega arith
field_short fields.Key = omega arith
field_short fields.Title = omega arith
field_short fields.Deadline = omega arith
field_short fields.ValidityDays = omega arith
field_short fields.StandstillDays = omega arith
field_short fields.Criteria = omega arith
field_short fields.PriceWeight = omega arith
field_short fields.LateWithdrawal = omega arith
field_short fields.Performance = omega arith
field_short fields.Lots = omega arith
field_short fields.Rationale = omega arith
field_short fields.Security = omega arith
field_short fields.Amount = omega arith
field_short fields.Responsive = omega arith
field_short fields.Quality = omega arith
field_short fields.Id = omega arith
field_short fields.Kind = omega arith
field_short fields.How = omega arith
field_short fields.After = omega arith

thing_short : (t : Thing) → length (what_member (Some (Named (thing_name t)))) ≤ 40
thing_short things.Line = omega arith
thing_short things.Notice = omega arith
thing_short things.Lot = omega arith
thing_short things.Tender = omega arith
thing_short things.Award = omega arith
thing_short things.Contract = omega arith
thing_short things.Security = omega arith

-- A subject that names no record, and one that names this record.
pub numbers_none : (w : Option What) → option_map told w ≡ None → IsShortNumber w
numbers_none w is n at = absurd (cc (sym is ∙ at))

pub numbers_named : (w : Option What) (name : List ℕ) → option_map told w ≡ Some (Named name) → IsShortNumber w
numbers_named w name is n at = absurd (cc (sym is ∙ at))

pub numbers_row : (w : Option What) (number : ℕ) → option_map told w ≡ Some (Record number) → length (decimal number) ≤ 10 → IsShortNumber w
numbers_row w number is few n at =
    let same : number ≡ n = cc (sym is ∙ at) in subst (λ (k : ℕ). length (decimal k) ≤ 10) same few

-- The number of a record has at most ten digits.
row_short : (n : ℕ) → length (decimal n) ≤ 10 → length (what_member (Some (Record n))) ≤ 40
row_short n few =
    let a = length-append (codes ",\"what\":\"row ") (decimal n ++ codes "\"") in
    let b = length-append (decimal n) (codes "\"") in
    omega (arith, a, b, few)

pub about_short : (r : Refusal) → ((n : ℕ) → subject_of_refusal r ≡ Some (Record n) → length (decimal n) ≤ 10) → length (what_member (subject_of_refusal r)) ≤ 40
about_short BadHead fits = omega arith
about_short TooLong fits = omega arith
about_short Coding fits = omega arith
about_short NoRoute fits = omega arith
about_short WrongMethod fits = omega arith
about_short BadKey fits = omega arith
about_short Forbidden fits = omega arith
about_short (BadBody (parts.Field f)) fits = field_short f
about_short (BadBody parts.Body) fits = omega arith
about_short (BadBody (parts.Row n)) fits = row_short n (fits n refl)
about_short (NoSuch thing) fits = thing_short thing
about_short Exists fits = omega arith
about_short NotYourTender fits = omega arith
about_short DeadlinePassed fits = omega arith
about_short DeadlineEarlier fits = omega arith
about_short NotOpenForTenders fits = omega arith
about_short AlreadyPresented fits = omega arith
about_short SecurityMissing fits = omega arith
about_short SecurityTooSmall fits = omega arith
about_short SecurityNotAsked fits = omega arith
about_short NotSealed fits = omega arith
about_short TooEarlyToOpen fits = omega arith
about_short AlreadyOpened fits = omega arith
about_short NotOpened fits = omega arith
about_short AlreadyDecided fits = omega arith
about_short NotAllExamined fits = omega arith
about_short Expired fits = omega arith
about_short Standstill fits = omega arith
about_short InsufficientFunds fits = omega arith
about_short MoreThanOutstanding fits = omega arith
about_short ContractEnded fits = omega arith
about_short NothingToCancel fits = omega arith
about_short LimitReached fits = omega arith
about_short Unavailable fits = omega arith

-- ---- the whole response

four : (a b c d : List ℕ) → length (a ++ b ++ c ++ d) ≡ length a + length b + length c + length d
four a b c d = omega (arith, length-append (a ++ b ++ c) d, length-append (a ++ b) c, length-append a b)

body_within : (a b c d e f : List ℕ) → length a ≤ 9 → length b ≤ 19 → length c ≤ 12 → length d ≤ 2 → length e ≤ 40 → length f ≤ 1
    → length (a ++ b ++ c ++ d ++ e ++ f) ≤ 100
body_within a b c d e f p q r s t u = omega (arith, length-append (a ++ b ++ c ++ d ++ e) f, length-append (a ++ b ++ c ++ d) e, four a b c d, p, q, r, s, t, u)

pub body_short : (r : Refusal) → length (what_member (subject_of_refusal r)) ≤ 40 → length (refusal_body r) ≤ 100
body_short r few =
    body_within (codes "{\"name\":\"") (name_of_refusal r) (codes "\",\"refusal\":") (decimal (number_of_refusal r)) (what_member (subject_of_refusal r)) (codes "}")
    (omega arith) (name_short r) (omega arith) (number_short r) few (omega arith)

start_within : (a b c d e f g h : List ℕ) → length a ≤ 9 → length b ≤ 3 → length c ≤ 1 → length d ≤ 19 → length e ≤ 16 → length f ≤ 16 → length g ≤ 18 → length h ≤ 3
    → length (a ++ b ++ c ++ d ++ e ++ f ++ g ++ h) ≤ 90
start_within a b c d e f g h p q r s t u v w =
    omega (
      arith,
      length-append (a ++ b ++ c ++ d ++ e ++ f ++ g) h,
      length-append (a ++ b ++ c ++ d ++ e ++ f) g,
      length-append (a ++ b ++ c ++ d ++ e) f,
      length-append (a ++ b ++ c ++ d) e,
      four a b c d,
      p,
      q,
      r,
      s,
      t,
      u,
      v,
      w,
    )

-- The head up to the length of the body.
start_short : (r : Refusal) (size : ℕ) → length (decimal size) ≤ 3 → length (head_start (status_of_refusal r) json size) ≤ 90
start_short r size few =
    start_within (codes "HTTP/1.1 ") (decimal (status_of_refusal r)) (codes " ") (phrase_of (status_of_refusal r)) (codes "\r\nContent-Type: ") json
    (codes "\r\nContent-Length: ") (decimal size)
    (omega arith) (status_short r) (omega arith) (phrase_short r) (omega arith) (omega arith) (omega arith) few

whole_within : (a b c d e : List ℕ) → length a ≤ 90 → length b ≤ 13 → length c ≤ 30 → length d ≤ 23 → length e ≤ 100 → length (a ++ (b ++ c) ++ d ++ e) ≤ 288
whole_within a b c d e p q r s t = omega (arith, four a (b ++ c) d e, length-append b c, p, q, r, s, t)

pub response_short : (r : Refusal) (method : Option Allow) → length (refusal_body r) ≤ 100 → length (decimal (length (refusal_body r))) ≤ 3 → length (response_of (Refused r method)) ≤ 288
response_short r method few digits =
    whole_within (head_start (status_of_refusal r) json (length (refusal_body r))) (allow_field method) (challenge_field (status_of_refusal r))
    (codes "\r\nConnection: close\r\n\r\n") (refusal_body r)
    (start_short r (length (refusal_body r)) digits) (allow_short method) (challenge_short r) (omega arith) few
