use Rattle.office_http.proofs.Names.{◌≡◌, ℕ, List, ◌++◌, length, vec_len, ap, ◌∙◌, rules}
use Rattle.office_http.proofs.Joining.{turned}
use Rattle.office_http.proofs.response.put_before.Goals as goal

pub returns : goal.returns
returns c =
    let joined = c.extend_from_slice.new.self in
    let many : vec_len joined ≡ length joined.items = search (rules, joined.ok) in
    turned c.args.out.now.items c.args.front.now joined.items c.rotate_right.new.self.items (vec_len joined) many
    (c.in_ok-extend_from_slice.ensures.items ∙ ap (λ (xs : List ℕ). xs ++ c.args.front.now) c.reserve_exact.ensures.items) c.rotate_right.ensures.items
