use Rattle.office_http.proofs.Names.{◌≡◌, Option, None, Some, ap, append-nil, option_map, rules, subst, sym, What, Name, Row, FitsBehind, what_member}
use Rattle.office_values.specs.Refusals.{told}
use Rattle.office_http.proofs.ShortRefusals.{numbers_named, numbers_none, numbers_row}
use Rattle.office_http.proofs.refusing.put_what.Goals as goal

pub returns-in-None-clause-put : goal.returns-in-None-clause-put
returns-in-None-clause-put c =
    let is : None ≡ c.args.what = search rules in
    subst (λ (w : Option What). FitsBehind c.args.out.now (what_member (option_map told w)) c.args.out.now) is (λ room. sym (append-nil c.args.out.now))

pub returns-in-Some-Name-clause-put : goal.returns-in-Some-Name-clause-put
returns-in-Some-Name-clause-put c =
    let is : Some (Name c.in-Some-Name.name) ≡ c.args.what = search rules in
    subst (λ (w : Option What). FitsBehind c.args.out.now (what_member (option_map told w)) c.put_name.new.out) is c.put_name.ensures

pub returns-in-Some-Row-clause-put : goal.returns-in-Some-Row-clause-put
returns-in-Some-Row-clause-put c =
    let is : Some (Row c.in-Some-Row.number) ≡ c.args.what = search rules in
    subst (λ (w : Option What). FitsBehind c.args.out.now (what_member (option_map told w)) c.put_row.new.out) is c.put_row.ensures.put

pub returns-in-None-clause-number : goal.returns-in-None-clause-number
returns-in-None-clause-number c =
    let is : None ≡ c.args.what = search rules in numbers_none c.args.what (ap (λ (w : Option What). option_map told w) (sym is))

pub returns-in-Some-Name-clause-number : goal.returns-in-Some-Name-clause-number
returns-in-Some-Name-clause-number c =
    let is : Some (Name c.in-Some-Name.name) ≡ c.args.what = search rules in
    numbers_named c.args.what c.in-Some-Name.name.now (ap (λ (w : Option What). option_map told w) (sym is))

pub returns-in-Some-Row-clause-number : goal.returns-in-Some-Row-clause-number
returns-in-Some-Row-clause-number c =
    let is : Some (Row c.in-Some-Row.number) ≡ c.args.what = search rules in
    numbers_row c.args.what c.in-Some-Row.number (ap (λ (w : Option What). option_map told w) (sym is)) c.put_row.ensures.few
