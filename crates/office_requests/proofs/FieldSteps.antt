-- The read value is the defined one, or memory was too small.
use Rattle.office_requests.proofs.Names.{◌≡◌, ◌⊎◌, inl, inr, Result, Ok, Err, sym, ap, Refusal, Unavailable, ReadsAs}

pub read_or_wanting : {A : Type 0} (result wanted : Result A Refusal) → ReadsAs result wanted → (result ≡ wanted) ⊎ (result ≡ Err Unavailable)
read_or_wanting (Ok value) wanted is = inl (sym is)
read_or_wanting (Err why) wanted (inl memory) = inr (ap Err memory)
read_or_wanting (Err why) wanted (inr is) = inl (sym is)
