use Rattle.office_http.proofs.Names.{◌≡◌, ◌∙◌, codes, decimal, json, phrase_of}
use Rattle.office_http.proofs.ShortTexts.{fit, fit_as, fits_then}
use Rattle.office_http.proofs.refusing.put_start.Goals as goal

pub returns : goal.returns
returns c =
    let status : c.as_bytes.result.now ≡ decimal c.args.status = c.as_bytes.ensures.value ∙ c.format.ensures.text in
    let phrase : c.as_bytes-2.result.now ≡ phrase_of c.args.status = c.as_bytes-2.ensures.value ∙ c.phrase.ensures in
    let size : c.as_bytes-3.result.now ≡ decimal c.args.size = c.as_bytes-3.ensures.value ∙ c.format-2.ensures.text in
    let all = fits_then _ _ _ _ _
    (fits_then _ _ _ _ _
    (fits_then _ _ _ _ _
    (fits_then _ _ _ _ _
    (fits_then _ _ _ _ _
    (fits_then _ _ _ _ _
    (fits_then _ _ _ _ _ (fit c.args.out.now (codes "HTTP/1.1 ") c.put.new.self c.put.ensures)
    (fit_as c.put.new.self c.as_bytes.result.now (decimal c.args.status) c.put-2.new.self c.put-2.ensures status))
    (fit c.put-2.new.self (codes " ") c.put-3.new.self c.put-3.ensures))
    (fit_as c.put-3.new.self c.as_bytes-2.result.now (phrase_of c.args.status) c.put-4.new.self c.put-4.ensures phrase))
    (fit c.put-4.new.self (codes "\r\nContent-Type: ") c.put-5.new.self c.put-5.ensures))
    (fit c.put-5.new.self json c.put-6.new.self c.put-6.ensures))
    (fit c.put-6.new.self (codes "\r\nContent-Length: ") c.put-7.new.self c.put-7.ensures))
    (fit_as c.put-7.new.self c.as_bytes-3.result.now (decimal c.args.size) c.put-8.new.self c.put-8.ensures size) in
    all.it
