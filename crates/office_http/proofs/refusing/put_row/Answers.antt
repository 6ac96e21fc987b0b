use Rattle.office_http.proofs.Names.{◌≡◌, ◌∙◌, arith, codes, decimal, length-decimal-le}
use Rattle.office_http.proofs.ShortTexts.{fit, fit_as, fits_then}
use Rattle.office_http.proofs.refusing.put_row.Goals as goal

pub returns-clause-put : goal.returns-clause-put
returns-clause-put c =
    let number : c.as_bytes.result.now ≡ decimal c.args.number = c.as_bytes.ensures.value ∙ c.format.ensures.text in
    let all = fits_then _ _ _ _ _ (fit c.args.out.now (codes ",\"what\":\"row ") c.put.new.self c.put.ensures)
    (fits_then _ _ _ _ _ (fit_as c.put.new.self c.as_bytes.result.now (decimal c.args.number) c.put-2.new.self c.put-2.ensures number)
    (fit c.put-2.new.self (codes "\"") c.put-3.new.self c.put-3.ensures)) in
    all.it

pub returns-clause-few : goal.returns-clause-few
returns-clause-few c = length-decimal-le 10 c.args.number (omega arith) (omega (arith, c.ranges.number)) (omega (arith, c.ranges.number))
