use Rattle.office_wire.proofs.Names.{◌≡◌, List, ℕ, Ok, Err, ◌++◌, inl, inr, sym, ap, append_assoc, ◌∙◌, err_from_is_err_and, framing_of, print_request}
use Rattle.office_wire.specs.declared.fault.ReadFault.TheVariants as fault
use Rattle.office_wire.proofs.AnyReaderLemmas.{well_formed}
use Rattle.office_wire.proofs.RequestLemmas.{no_whole_head, no_whole_body, head_refused, misframed_refused, past_head_stands, head_stands, body_stands}
use Rattle.office_wire.proofs.request.read_request.Goals as goal

pub returns-in_err-head-clause-refused : goal.returns-in_err-head-clause-refused
returns-in_err-head-clause-refused g c =
    let p = err_from_is_err_and c.from_residual.result c.from_residual.ensures.1 in
    let h = c.in_err-head.ensures in
    rw (p.1, p.2) (λ input e. head_refused input c.in_err-head.field-0.0 (λ is. h.bad (ap (λ t. Err t) is) input e) (λ is. h.long (ap (λ t. Err t) is) input e) (λ is. h.other (ap (λ t. Err t) is)))

pub returns-in_err-head-clause-cut : goal.returns-in_err-head-clause-cut
returns-in_err-head-clause-cut g c is input e =
    let p = err_from_is_err_and c.from_residual.result c.from_residual.ensures.1 in
    let whole = rw (p.1, p.2) at is in
    let failed : c.in_err-head.field-0.0 ≡ fault.Read = cc whole in
    let cut = c.in_err-head.ensures.cut (ap (λ t. Err t) failed) input e in
    record { part = cut.part; rest = cut.rest; now_is = cut.now_is; parts = cut.parts; none = no_whole_head cut.part cut.none }

pub returns-in_err-length-clause-refused : goal.returns-in_err-length-clause-refused
returns-in_err-length-clause-refused g c =
    let p = err_from_is_err_and c.from_residual-in_err-length.result c.from_residual-in_err-length.ensures.1 in
    rw (p.1, p.2) (λ input e.
    let read = c.in_ok-head.ensures.whole input e in
    misframed_refused input c.in_err-length.field-0.0 (record {
      head = read.head;
      after = read.rest;
      stands = read.stands;
      framed = ap framing_of (sym read.view_is) ∙ (sym c.body_length_of.ensures.framed ∙ c.in_err-length.was);
    }))

pub returns-in_err-body-clause-cut : goal.returns-in_err-body-clause-cut
returns-in_err-body-clause-cut g c is input e =
    let read = c.in_ok-head.ensures.whole input e in
    let p = err_from_is_err_and c.from_residual-in_err-body.result c.from_residual-in_err-body.ensures.1 in
    let whole = rw (p.1, p.2) at is in
    let failed : c.in_err-body.field-0.0 ≡ fault.Read = cc whole in
    let cut = c.in_err-body.ensures.cut (ap (λ t. Err t) failed) read.rest read.now_is in
    let framed = ap framing_of (sym read.view_is) ∙ (sym c.body_length_of.ensures.framed ∙ c.in_ok-length.was) in
    record {
      part = print_request read.head ++ cut.part;
      rest = cut.rest;
      now_is = cut.now_is;
      parts = read.stands.reads.1 ∙ (ap (λ (t : List ℕ). print_request read.head ++ t) cut.parts ∙ sym (append_assoc (print_request read.head) cut.part cut.rest));
      none = no_whole_body input read.head read.rest cut.part c.in_ok-length.length read.stands framed cut.few;
    }

pub returns-in-Some-clause-request : goal.returns-in-Some-clause-request
returns-in-Some-clause-request g c input e =
    let read = c.in_ok-head.ensures.whole input e in
    let (rest, now, len, parts) = rw c.in-Some.is at c.in_ok-body.ensures.body read.rest read.now_is in
    record {
      rest = rest;
      now_is = now;
      whole = record {
        head = read.head;
        after = read.rest;
        stands = read.stands;
        view = read.view_is;
        framed = sym c.body_length_of.ensures.framed ∙ (c.in_ok-length.was ∙ ap (λ n. Ok n) (sym len));
        body = parts;
      };
    }

pub returns-in-None-clause-refused : goal.returns-in-None-clause-refused
returns-in-None-clause-refused g c input e =
    let read = c.in_ok-head.ensures.whole input e in
    let (short, end) = rw c.in-None.is at c.in_ok-body.ensures.body read.rest read.now_is in
    inr (inr (record {
      head = read.head;
      after = read.rest;
      stands = read.stands;
      len = c.in_ok-length.length;
      framed = ap framing_of (sym read.view_is) ∙ (sym c.body_length_of.ensures.framed ∙ c.in_ok-length.was);
      short = short;
    }))

pub returns-in_err-length-clause-stands : goal.returns-in_err-length-clause-stands
returns-in_err-length-clause-stands g c =
    let p = err_from_is_err_and c.from_residual-in_err-length.result c.from_residual-in_err-length.ensures.1 in
    rw (p.1, p.2) (λ input e.
    let read = c.in_ok-head.ensures.whole input e in
    past_head_stands input _ c.in_err-length.field-0.0 (record {
      misframed = record {
        head = read.head;
        after = read.rest;
        stands = read.stands;
        framed = ap framing_of (sym read.view_is) ∙ (sym c.body_length_of.ensures.framed ∙ c.in_err-length.was);
      };
      now_is = read.now_is;
    }))

pub returns-in_err-body-clause-stands : goal.returns-in_err-body-clause-stands
returns-in_err-body-clause-stands g c =
    let p = err_from_is_err_and c.from_residual-in_err-body.result c.from_residual-in_err-body.ensures.1 in
    let failed = c.in_err-body.ensures in
    rw (p.1, p.2) (λ input e.
    let read = c.in_ok-head.ensures.whole input e in
    body_stands input _ c.in_err-body.field-0.0 failed.fault (λ is. record {
      part = print_request read.head;
      rest = read.rest;
      now_is = failed.kept (ap (λ t. Err t) is) ∙ read.now_is;
      parts = read.stands.reads.1;
    }))

pub returns-in_err-head-clause-stands : goal.returns-in_err-head-clause-stands
returns-in_err-head-clause-stands g c =
    let p = err_from_is_err_and c.from_residual.result c.from_residual.ensures.1 in
    let h = c.in_err-head.ensures in
    rw (p.1, p.2) (λ input e. head_stands input _ c.in_err-head.field-0.0 (λ is. h.bad (ap (λ t. Err t) is) input e) (λ is. h.long (ap (λ t. Err t) is) input e) (h.stands input e))

pub returns-in-None-clause-stands : goal.returns-in-None-clause-stands
returns-in-None-clause-stands g c input e =
    let read = c.in_ok-head.ensures.whole input e in
    let (short, end) = rw c.in-None.is at c.in_ok-body.ensures.body read.rest read.now_is in
    inr (inr (record {
      now_is = end;
      ended = inl (record {
        head = read.head;
        after = read.rest;
        stands = read.stands;
        len = c.in_ok-length.length;
        framed = ap framing_of (sym read.view_is) ∙ (sym c.body_length_of.ensures.framed ∙ c.in_ok-length.was);
        short = short;
      });
    }))

pub returns-in-Some-clause-formed : goal.returns-in-Some-clause-formed
returns-in-Some-clause-formed g c =
    let long = rw c.in-Some.is at c.in_ok-body.ensures.long in
    well_formed _ c.in_ok-head.ensures.formed (sym c.body_length_of.ensures.framed ∙ (c.in_ok-length.was ∙ ap (λ n. Ok n) (sym long)))
