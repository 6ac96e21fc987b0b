-- Worked examples of sealed tenders, computed.
use Rattle.office_machine.proofs.Names.{codes, refl, row_at, row_put, row_drop, AreRequests, SameButSeals, Same, Presented, Modified, means, office, security, setup, SealsWorked, theirs, one, other}

same_but_seals : SameButSeals means theirs (office setup) one other
unfolding row_at row_put row_drop
same_but_seals = (
  record { moment = refl; caller = refl; unavailable = refl; demand = Presented security (codes "500") (codes "abc") refl refl refl refl },
  (
    record { moment = refl; caller = refl; unavailable = refl; demand = Modified 1 (codes "4500") (codes "abcd") refl refl refl refl refl },
    (
      record { moment = refl; caller = refl; unavailable = refl; demand = refl },
      (
        record { moment = refl; caller = refl; unavailable = refl; demand = refl },
        (
          record { moment = refl; caller = refl; unavailable = refl; demand = refl },
          (
            record { moment = refl; caller = refl; unavailable = refl; demand = refl },
            (
              record { moment = refl; caller = refl; unavailable = refl; demand = refl },
              (
                record { moment = refl; caller = refl; unavailable = refl; demand = refl },
                (
                  record { moment = refl; caller = refl; unavailable = refl; demand = refl },
                  (
                    record { moment = refl; caller = refl; unavailable = refl; demand = refl },
                    (
                      record { moment = refl; caller = refl; unavailable = refl; demand = refl },
                      (
                        record { moment = refl; caller = refl; unavailable = refl; demand = refl },
                        (
                          record { moment = refl; caller = refl; unavailable = refl; demand = Same refl },
                          (
                            record { moment = refl; caller = refl; unavailable = refl; demand = Same refl },
                            (
                              record { moment = refl; caller = refl; unavailable = refl; demand = refl },
                              (
                                record { moment = refl; caller = refl; unavailable = refl; demand = refl },
                                (record { moment = refl; caller = refl; unavailable = refl; demand = Same refl }, tt),
                              ),
                            ),
                          ),
                        ),
                      ),
                    ),
                  ),
                ),
              ),
            ),
          ),
        ),
      ),
    ),
  ),
)

can_be_given : AreRequests means (office setup) one
unfolding row_at row_put row_drop
can_be_given = ((tt, refl), ((tt, refl), (tt, (tt, (tt, (tt, (tt, (tt, (tt, (tt, (tt, (tt, ((tt, refl), ((tt, tt), (tt, (tt, ((tt, tt), tt)))))))))))))))))

pub seals_worked : SealsWorked
unfolding row_at row_put row_drop
seals_worked = record {
  same_but_seals = same_but_seals;
  can_be_given = can_be_given;
  publishes_blindly = λ x envelopes seals rows opens. refl;
  sees_blindly = λ query s envelopes seals rows. refl;
  first_is_told = refl;
  other_is_told = refl;
  alike_but_digests = refl;
  both_are_withdrawn = refl;
  read_at_opening = refl;
  other_is_read = refl;
}
