use Rattle.office_http.proofs.Names.{◌≡◌, ◌≤◌, ℕ, ◌∙◌, ap, arith, length, codes, decimal, length-decimal-le, status_of_refusal, allow_field, challenge_field, head_start, json, refusal_body, response_of}
use Rattle.office_http.specs.declared.reply.Reply.TheVariants.{Refused}
use Rattle.office_http.proofs.ShortRefusals.{response_short}
use Rattle.office_http.proofs.ShortTexts.{fit, fit_as, fits_new, fits_then}
use Rattle.office_http.proofs.refusing.refusal_text.Goals as goal

pub returns : goal.returns
returns c =
    let refusal = c.args.refusal in
    let body = refusal_body refusal in
    let few : length body ≤ 100 = c.refusal_object-body.ensures.most in
    let digits : length (decimal (length body)) ≤ 3 = length-decimal-le 3 (length body) (omega arith) (omega (arith, few)) (omega (arith, few)) in
    let shown = length c.bytes.result.now in
    let size : shown ≡ length body = ap length (c.bytes.ensures.bytes ∙ c.refusal_object-body.ensures.body) in
    let same : head_start c.status-status.result json shown ≡ head_start (status_of_refusal refusal) json (length body) =
    ap (λ (st : ℕ). head_start st json shown) c.status-status.ensures ∙ ap (λ (n : ℕ). head_start (status_of_refusal refusal) json n) size in
    let allow : c.as_bytes.result.now ≡ allow_field c.args.method = c.as_bytes.ensures.value ∙ c.allow_field.ensures in
    let challenge : c.as_bytes-2.result.now ≡ challenge_field (status_of_refusal refusal) = c.as_bytes-2.ensures.value ∙ c.challenge_field.ensures ∙ ap challenge_field c.status-status.ensures in
    let all = fits_then _ _ _ _ _
    (fits_then _ _ _ _ _
    (fits_then _ _ _ _ _
    (fit_as c.new-out.result (head_start c.status-status.result json shown) (head_start (status_of_refusal refusal) json (length body)) c.put_start.new.out c.put_start.ensures same)
    (fits_then _ _ _ _ _ (fit_as c.put_start.new.out c.as_bytes.result.now (allow_field c.args.method) c.put.new.self c.put.ensures allow)
    (fit_as c.put.new.self c.as_bytes-2.result.now (challenge_field (status_of_refusal refusal)) c.put-2.new.self c.put-2.ensures challenge)))
    (fit c.put-2.new.self (codes "\r\nConnection: close\r\n\r\n") c.put-3.new.self c.put-3.ensures))
    (fit_as c.put-3.new.self c.bytes-2.result.now body c.put-4.new.self c.put-4.ensures (c.bytes-2.ensures.bytes ∙ c.refusal_object-body.ensures.body)) in
    fits_new c.new-out.result (response_of (Refused refusal c.args.method)) c.put-4.new.self c.new-out.ensures all (response_short refusal c.args.method few digits)
