-- Examples of responses, computed by the prover.
use Rattle.office_http.proofs.Names.{◌≡◌, codes, Some, None, digits, refl, NoRoute, WrongMethod, response_of, Post, Json}
use Rattle.office_http.specs.declared.reply.Reply.TheVariants.{Refused}

no_route : response_of (Refused NoRoute None)
    ≡ codes "HTTP/1.1 404 Not Found\r\nContent-Type: application/json\r\nContent-Length: 30\r\nConnection: close\r\n\r\n{\"name\":\"NoRoute\",\"refusal\":4}"
unfolding digits
no_route = refl

other_method : response_of (Refused WrongMethod (Some Post))
    ≡ codes "HTTP/1.1 405 Method Not Allowed\r\nContent-Type: application/json\r\nContent-Length: 34\r\nAllow: POST\r\nConnection: close\r\n\r\n{\"name\":\"WrongMethod\",\"refusal\":5}"
unfolding digits
other_method = refl

accepted : response_of (Json (codes "{\"batch\":\"B1\",\"moment\":\"2026-01-05T09:00:00Z\",\"rows\":2}"))
    ≡ codes "HTTP/1.1 200 OK\r\nContent-Type: application/json\r\nContent-Length: 55\r\nConnection: close\r\n\r\n{\"batch\":\"B1\",\"moment\":\"2026-01-05T09:00:00Z\",\"rows\":2}"
unfolding digits
accepted = refl
