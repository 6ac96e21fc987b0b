use Rattle.office_http.proofs.Names.{codes}
use Rattle.office_http.proofs.ShortTexts.{fit, fit_as, fits_then}
use Rattle.office_http.proofs.refusing.put_name.Goals as goal

pub returns : goal.returns
returns c =
    let all = fits_then _ _ _ _ _ (fit c.args.out.now (codes ",\"what\":\"") c.put.new.self c.put.ensures)
    (fits_then _ _ _ _ _ (fit_as c.put.new.self c.as_bytes.result.now c.args.name.now c.put-2.new.self c.put-2.ensures c.as_bytes.ensures.value)
    (fit c.put-2.new.self (codes "\"") c.put-3.new.self c.put-3.ensures)) in
    all.it
