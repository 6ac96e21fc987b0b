use Rattle.office_tables.proofs.Names.{rules, ◌≡◌, IsTrue, state}
use Rattle.office_tables.proofs.Versions.{asked_version, refused_version}
use Rattle.office_tables.proofs.version.ask_version.Goals as goal

pub returns-clause-one : goal.returns-clause-one
returns-clause-one g c clean n clock shows = asked_version n clock g.S.Store c.args.conn.now (λ rows. rows.items) c.ask.result (c.ask.ensures.asked clean) shows

pub returns-clause-taken : goal.returns-clause-taken
returns-clause-taken g c clean n clock shows =
    let settled : IsTrue (state g.S.Store c.args.conn.now).is_open → (state g.S.Store c.args.conn.now).now ≡ (state g.S.Store c.args.conn.now).committed = search rules in
    refused_version n clock g.S.Store c.args.conn.now c.ask.result (c.ask.ensures.refused clean) settled shows
