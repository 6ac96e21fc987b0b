use Rattle.office_http.proofs.Names.{◌≡◌, ◌≤◌, ◌∙◌, ap, arith, length, option_map, codes, decimal, name_of_refusal, number_of_refusal, subject_of_refusal, refusal_body, what_member}
use Rattle.office_values.specs.Refusals.{told}
use Rattle.office_http.proofs.ShortRefusals.{about_short, body_short}
use Rattle.office_http.proofs.ShortTexts.{fit, fit_as, fits_new, fits_then}
use Rattle.office_http.proofs.refusing.refusal_object.Goals as goal

pub returns : goal.returns
returns c =
    let refusal = c.args.refusal in
    let few : length (refusal_body refusal) ≤ 100 = body_short refusal (about_short refusal (λ n is. c.put_what.ensures.number n (c.what.ensures ∙ is))) in
    let name : c.as_bytes.result.now ≡ name_of_refusal refusal = c.as_bytes.ensures.value ∙ c.name.ensures in
    let number : c.as_bytes-2.result.now ≡ decimal (number_of_refusal refusal) = c.as_bytes-2.ensures.value ∙ c.format.ensures.text ∙ ap decimal c.number.ensures in
    let all = fits_then _ _ _ _ _
    (fits_then _ _ _ _ _
    (fits_then _ _ _ _ _
    (fits_then _ _ _ _ _
    (fits_then _ _ _ _ _ (fit c.new-out.result (codes "{\"name\":\"") c.put.new.self c.put.ensures)
    (fit_as c.put.new.self c.as_bytes.result.now (name_of_refusal refusal) c.put-2.new.self c.put-2.ensures name))
    (fit c.put-2.new.self (codes "\",\"refusal\":") c.put-3.new.self c.put-3.ensures))
    (fit_as c.put-3.new.self c.as_bytes-2.result.now (decimal (number_of_refusal refusal)) c.put-4.new.self c.put-4.ensures number))
    (fit_as c.put-4.new.self (what_member (option_map told c.what.result)) (what_member (subject_of_refusal refusal)) c.put_what.new.out c.put_what.ensures.put (ap what_member c.what.ensures)))
    (fit c.put_what.new.out (codes "}") c.put-5.new.self c.put-5.ensures) in
    record { body = fits_new c.new-out.result (refusal_body refusal) c.put-5.new.self c.new-out.ensures all (omega (arith, few)); most = few }
