use Rattle.office_desk.proofs.Names.{Given, given}
use Rattle.office_desk.proofs.Accounted.{Laws, joined_refused}
use Rattle.office_desk.proofs.Doing.{does_nothing, does_what_was_planned}
use Rattle.office_desk.proofs.desk.Desk.ask.Goals as goal

pub returns-in_err-planned-clause-does : goal.returns-in_err-planned-clause-does
returns-in_err-planned-clause-does g c =
    does_nothing _ _ c.args.moment c.args.caller.now c.args.command _ _ c.from_residual.result c.from_residual.ensures.0 c.in_err-planned.ensures.looks.0

pub returns-clause-does : goal.returns-clause-does
returns-clause-does g c =
    does_what_was_planned _ _ c.args.moment c.args.caller.now c.args.command _ _ _ _ c.in_ok-planned.ensures.looks.0 c.in_ok-planned.ensures.looks.1
    c.in_ok-planned.ensures.moved
    c.commit.result c.commit.ensures.alters c.commit.ensures.refused

pub returns-in_err-planned-clause-joins : goal.returns-in_err-planned-clause-joins
returns-in_err-planned-clause-joins g c honest s registered held keeps xs reached =
    let x : Given = given s c.args.moment c.args.caller.now c.args.command in
    let laws : Laws = record { accounts = c.accounts.ensures; tenders = c.tenders.ensures; securities = c.securities.ensures; performances = c.performances.ensures; reaches = c.keeping.ensures.reaches; stays = c.keeping.ensures.stays } in
    joined_refused laws _ _ x xs reached keeps _ c.from_residual.result c.from_residual.ensures.0 (c.in_err-planned.ensures.looks.0.same honest s held)

pub returns-clause-joins : goal.returns-clause-joins
returns-clause-joins g c honest s registered held keeps xs reached =
    let x : Given = given s c.args.moment c.args.caller.now c.args.command in
    let looks = c.in_ok-planned.ensures.looks in
    let before = c.commit.ensures.alters.before honest in
    c.commit.ensures.joins honest _ x (looks.1 before s held) registered (looks.0.same before s held) keeps xs reached
