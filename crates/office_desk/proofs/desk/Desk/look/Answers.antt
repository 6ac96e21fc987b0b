use Rattle.office_desk.proofs.Names.{subst, OnOk, Tables, Looks, DeskOf, HasShown, IsSeen, TellsQuery, read_text}
use Rattle.office_desk.proofs.desk.Desk.look.Goals as goal

pub returns-clause-looks : goal.returns-clause-looks
returns-clause-looks g c =
    let family : DeskOf g.row.H.Denot → Type 0 = λ d. Looks g.H.Lookups.meaning d.shelf c.look_at.new.shelf
    (λ s. IsSeen d.settings.publisher c.args.caller.now c.args.query s (read_text c.look_at.result)) in
    subst family c.self.view_is c.look_at.ensures.looks

pub returns-clause-shown : goal.returns-clause-shown
returns-clause-shown g c =
    let family : DeskOf g.row.H.Denot → Type 0 = λ d. g.H.Lookups.meaning.honest c.look_at.new.shelf → (s : Tables) → g.H.Lookups.meaning.holds d.shelf s
    → OnOk c.look_at.result (HasShown d.settings.publisher c.args.query s) in
    subst family c.self.view_is c.look_at.ensures.shown

pub returns-clause-tells : goal.returns-clause-tells
returns-clause-tells g c =
    let family : DeskOf g.row.H.Denot → Type 0 = λ d. TellsQuery g.H.Lookups.meaning d.shelf c.look_at.new.shelf c.args.caller.now c.args.query c.look_at.result in
    subst family c.self.view_is c.look_at.ensures.tells
