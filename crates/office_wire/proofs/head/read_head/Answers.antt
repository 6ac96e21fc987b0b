use Rattle.office_wire.proofs.Names.{◌≡◌, ℕ, List, [], ◌++◌, length, drop, Some, Ok, arith, rules, sym, ap, subst, refl, inl, inr, ◌∙◌, append-nil, drop_at, err_from_is_err_and, HasNoRequest, StandsHead, IsBadHead, IsLongHead, view_of}
use Rattle.office_wire.proofs.HeadLemmas.{no_head_nil, no_head_quiet, never_bad, open_long, stands_now}
use Rattle.office_wire.proofs.ReadLemmas.{read_more, over}
use Rattle.office_wire.proofs.head.read_head.Goals as goal

pub bytes-init : goal.bytes-init
bytes-init g c = record {
  short = (let none = ap length c.in_ok-lines.ensures in omega (arith, none));
  none = subst HasNoRequest (sym c.in_ok-lines.ensures) no_head_nil;
  left = omega arith;
  sound = refl;
  read = λ input e. (input, e, rw c.in_ok-lines.ensures refl);
}

pub returns-in_err-spans-clause-stands : goal.returns-in_err-spans-clause-stands
returns-in_err-spans-clause-stands g c =
    let p = err_from_is_err_and c.from_residual-in_err-spans.result c.from_residual-in_err-spans.ensures.1 in
    rw (p.1, p.2) (λ input e.
    let (rest, at, parts) = c.bytes.invariant.read input e in
    let x = rw c.in-Some.is at c.in_ok-is_worth.ensures.read in
    let (more, now, all) = read_more _ _ input _ _ rest at parts x in
    record { part = c.read_on.new.self; rest = more; now_is = now; parts = all })

pub returns-in-Whole-clause-whole : goal.returns-in-Whole-clause-whole
returns-in-Whole-clause-whole g c input e =
    let inv = c.bytes.invariant in
    let (rest, at, parts) = inv.read input e in
    let x = rw c.in-Some.is at c.in_ok-is_worth.ensures.read in
    let (more, now, all) = read_more _ _ input _ _ rest at parts x in
    let of = rw (c.in-Whole.is, c.bytes-then-is_worth.ensures) at c.in_ok-spans.ensures in
    let stands = stands_now c.read_on.new.self (c.bytes.lines ++ x.front) x.last more c.parse.new.headers.items c.in-Whole.spans x.appended (no_head_quiet c.bytes.lines x.front x.quiet inv.none) x.short of.1 in
    record {
      head = stands.head;
      rest = more;
      now_is = now;
      stands = subst (λ t. StandsHead t stands.head more) (sym all) stands.stands;
      view_is = ◌∙◌ {c = view_of stands.head} (rw c.into_bytes.ensures at c.of_spans.ensures) stands.view;
    }

pub bytes-preserved-in-Open : goal.bytes-preserved-in-Open
bytes-preserved-in-Open g c =
    let inv = c.bytes.invariant in
    let x = rw c.in-Some.is at c.in_ok-is_worth.ensures.read in
    let still = rw (c.in-Open.is, c.bytes-then-is_worth.ensures) at c.in_ok-spans.ensures in
    record {
      short = x.short;
      none = still.0;
      left = omega (arith, inv.left, c.in_ok-is_worth.ensures.spent);
      sound = c.in_ok-is_worth.ensures.whole ∙ inv.sound;
      read = λ input e.
          let (rest, at, parts) = inv.read input e in
          read_more _ _ input _ _ rest at parts x;
    }

pub bytes-preserved : goal.bytes-preserved
bytes-preserved g c =
    let inv = c.bytes.invariant in
    let x = rw c.in-Some.is at c.in_ok-is_worth.ensures.read in
    record {
      short = x.short;
      none = c.in_ok-is_worth.ensures.no_head (ap (λ t. Ok t) (c.in-Some.is ∙ ap (λ t. Some t) c.if-is_worth.false)) inv.none;
      left = omega (arith, inv.left, c.in_ok-is_worth.ensures.spent);
      sound = c.in_ok-is_worth.ensures.whole ∙ inv.sound;
      read = λ input e.
          let (rest, at, parts) = inv.read input e in
          read_more _ _ input _ _ rest at parts x;
    }

pub returns-in-Bad-clause-bad : goal.returns-in-Bad-clause-bad
returns-in-Bad-clause-bad g c same input e =
    let (rest, at, parts) = c.bytes.invariant.read input e in
    let x = rw c.in-Some.is at c.in_ok-is_worth.ensures.read in
    let (more, now, all) = read_more _ _ input _ _ rest at parts x in
    let bad = rw (c.in-Bad.is, c.bytes-then-is_worth.ensures) at c.in_ok-spans.ensures in
    subst IsBadHead (sym all) (never_bad c.read_on.new.self more x.short bad.0 bad.1)

pub returns-in-Bad-clause-stands : goal.returns-in-Bad-clause-stands
returns-in-Bad-clause-stands g c input e =
    let (rest, at, parts) = c.bytes.invariant.read input e in
    let x = rw c.in-Some.is at c.in_ok-is_worth.ensures.read in
    let (more, now, all) = read_more _ _ input _ _ rest at parts x in
    let bad = rw (c.in-Bad.is, c.bytes-then-is_worth.ensures) at c.in_ok-spans.ensures in
    inr (record { part = c.read_on.new.self; rest = more; now_is = now; parts = all; short = x.short; ended = bad.0; never = bad.1 })

pub returns-in-Open-2-clause-long : goal.returns-in-Open-2-clause-long
returns-in-Open-2-clause-long g c is input e =
    let inv = c.bytes.invariant in
    let (rest, at, parts) = inv.read input e in
    let still = rw (c.in-Open-2.is, c.bytes-2.ensures) at c.in_ok-parse.ensures in
    subst IsLongHead (sym parts) (open_long c.bytes.lines rest (omega (arith, inv.short, c.bytes-test.false, ap length c.bytes-in-bytes.ensures)) still.0 still.1)

pub returns-in-Open-2-clause-stands : goal.returns-in-Open-2-clause-stands
returns-in-Open-2-clause-stands g c input e =
    let inv = c.bytes.invariant in
    let (rest, at, parts) = inv.read input e in
    let full : length c.bytes.lines ≡ 8192 = omega (arith, inv.short, c.bytes-test.false, ap length c.bytes-in-bytes.ensures) in
    at ∙ ap (λ t. Some t) (sym (ap (drop 8192) parts ∙ drop_at c.bytes.lines rest 8192 full))

pub returns-clause-bad : goal.returns-clause-bad
returns-clause-bad g c is input e =
    let inv = c.bytes.invariant in
    let (rest, at, parts) = inv.read input e in
    let bad = rw (c.in-Bad-2.is, c.bytes-2.ensures) at c.in_ok-parse.ensures in
    subst IsBadHead (sym parts) (never_bad c.bytes.lines rest inv.short bad.0 bad.1)

pub returns-clause-stands : goal.returns-clause-stands
returns-clause-stands g c input e =
    let inv = c.bytes.invariant in
    let (rest, at, parts) = inv.read input e in
    let bad = rw (c.in-Bad-2.is, c.bytes-2.ensures) at c.in_ok-parse.ensures in
    inr (record { part = c.bytes.lines; rest = rest; now_is = at; parts = parts; short = inv.short; ended = bad.0; never = bad.1 })

pub returns-in_default-clause-stands : goal.returns-in_default-clause-stands
returns-in_default-clause-stands g c input e =
    let inv = c.bytes.invariant in
    let (rest, at, parts) = inv.read input e in
    let none = over _ _ rest at (c.in_ok-is_worth.ensures.over (search rules)) in
    let all : input ≡ c.bytes.lines = parts ∙ (ap (λ (t : List ℕ). c.bytes.lines ++ t) none.0 ∙ append-nil c.bytes.lines) in
    let same : length input ≡ length c.bytes.lines = ap length all in
    inl (none.1, omega (arith, same, c.bytes-test.true, ap length c.bytes-in-bytes.ensures))

pub returns-in-Whole-clause-formed : goal.returns-in-Whole-clause-formed
returns-in-Whole-clause-formed g c =
    let inv = c.bytes.invariant in
    let x = rw c.in-Some.is at c.in_ok-is_worth.ensures.read in
    let of = rw (c.in-Whole.is, c.bytes-then-is_worth.ensures) at c.in_ok-spans.ensures in
    let stands = stands_now c.read_on.new.self (c.bytes.lines ++ x.front) x.last [] c.parse.new.headers.items c.in-Whole.spans x.appended (no_head_quiet c.bytes.lines x.front x.quiet inv.none) x.short of.1 in (
      stands.head,
      stands.stands.reads.0,
      stands.stands.short,
      ◌∙◌ {c = view_of stands.head} (rw c.into_bytes.ensures at c.of_spans.ensures) stands.view,
    )
