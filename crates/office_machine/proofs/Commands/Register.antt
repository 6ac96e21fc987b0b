-- The registration of a tenderer keeps the laws of the office.
use Rattle.office_machine.proofs.Names.{arith, ℕ, List, [], ◌∷◌, refl, None, Register, register_puts, time_of}
use Rattle.office_base.specs.declared.puts.Put.TheVariants as puts
use Rattle.office_machine.proofs.Worlds.WorldsPut.{Plain}
use Rattle.office_machine.proofs.Commands.Lawful.{Lawful, Idle, given}
use Rattle.office_machine.proofs.FateLaws.QuietFates.{kept_after, one_more}
use Rattle.office_machine.proofs.Commands.Tail.{front, quiet}

pub register : (tenderer name address key : List ℕ) → Lawful (Register tenderer name address key)
register tenderer name address key = record {
  accounts = Idle refl (λ s moment caller xs. record { moves_none = refl; held = λ _. refl; none_brought = λ _. refl; none_taken = λ _. refl });
  fates = λ readings xs s moment caller kept own allowed.
      let x = given s moment caller (Register tenderer name address key) in
      kept_after readings (x ∷ xs) (register_puts (record { tenderer = None; clock = s.clock }) (time_of x) tenderer name address key) s (tt, (refl, tt)) (one_more readings xs x s kept refl (λ r. refl) (λ q. refl));
  tail = λ readings s moment caller have allowed. front (puts.Tenderer _ ∷ []) (refl, tt) (quiet _ [] tt refl (omega arith));
  parents = λ readings s moment caller order have registered may allowed u grown later. (tt, (tt, tt));
  lacks = λ xs s moment caller whole allowed. refl;
  alike = λ th W s es' ss' all seals readings t caller quiet. (Plain tt refl, (Plain tt refl, tt));
  gentle = λ readings s moment caller order allowed whole. ((refl, tt), ((refl, tt), tt));
}
