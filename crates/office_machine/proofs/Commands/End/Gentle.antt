-- Over any tables, the end of a contract makes no missing parent of a row, and replaces no row of another owner.
use Rattle.office_machine.proofs.Names.{max, ℕ, ◌+◌, cond, ◌≡◌, Option, Some, None, refl, outstanding, is_held, notice_of_contract, lot_of_contract, line_of_lot, Tables, contract_at, performance_at, entries_of_contract, performance_settled, with_next_release, ClockRow, ContractRow, LineRow, NoticeRow, end_puts, ended_contract, ended_state, How, End}
use Rattle.office_machine.proofs.NoParents.Gentle.{AreGentle}
use Rattle.office_machine.proofs.NoParents.Gentle.{PutsGently}
use Rattle.office_machine.proofs.NoParents.Kept.{notice_kept, line_of, contract_kept, performance_kept, gentle-if, line_found}

end_by : (s : Tables) (clock : ClockRow) (t contract : ℕ) (how : How) (o : Option ContractRow) (n : Option NoticeRow) (w : Option LineRow) → contract_at contract s ≡ o → notice_of_contract o s ≡ n
    → line_of_lot (lot_of_contract o s) s ≡ w
    → AreGentle s (end_puts (record { contract = o; entries = entries_of_contract contract s; notice = n; line = w; performance = performance_at contract s; clock = clock }) t how)
end_by s clock t contract how (Some c) (Some n) (Some w) is notice line =
    let at = line_found s (lot_of_contract (Some c) s) w line in (
      contract_kept s contract c (ended_contract t how (entries_of_contract contract s) c) is refl refl refl refl,
      (
        line_of s at.0 w (w.free + outstanding (entries_of_contract contract s) c) at.1,
        (
          notice_kept s c.notice n (with_next_release n) notice refl,
          ((refl, tt), gentle-if s (performance_settled (ended_state how)) (performance_at contract s) (λ r found. performance_kept s (cond (is_held r.state) (ended_state how) r.state) contract r found)),
        ),
      ),
    )
end_by s clock t contract how None n w is notice line = tt
end_by s clock t contract how (Some c) None w is notice line = tt
end_by s clock t contract how (Some c) (Some n) None is notice line = tt

pub end_gently : (contract : ℕ) (how : How) → PutsGently (End contract how)
end_gently contract how readings s moment caller order allowed whole =
    end_by s s.clock (max moment s.clock.moment) contract how (contract_at contract s) (notice_of_contract (contract_at contract s) s) (line_of_lot (lot_of_contract (contract_at contract s) s) s) refl refl refl
