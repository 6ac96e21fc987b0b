-- The requests of the grammar.
use Rattle.office_wire.proofs.Names.{◌≡◌, ◌++◌, length, Ok, refl, sym, append-nil, print_request, IsWellFormed, IsWellFormedHead, framing_of, RequestView}

-- a head followed by a body of the length that it announces is a request of the grammar
pub well_formed : (r : RequestView) → IsWellFormedHead r.head → framing_of r.head ≡ Ok (length r.body) → IsWellFormed r
well_formed r (h, is, short, view) framed = (
  print_request h ++ r.body,
  record {
    head = h;
    after = r.body;
    stands = record { reads = (is, refl); short = short };
    view = view;
    framed = framed;
    body = sym (append-nil r.body);
  },
)
