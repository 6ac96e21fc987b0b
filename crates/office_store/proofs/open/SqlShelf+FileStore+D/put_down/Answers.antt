use Rattle.office_store.proofs.Names.{subst, IsPutDown}
use Rattle.office_store.proofs.Reopening.{put_down}
use Rattle.office_store.proofs.open.SqlShelf+FileStore+D.put_down.Goals as goal

pub returns : goal.returns
returns g c =
    let last = c.into_connection.result in
    let it = put_down last c.into_store.result c.into_store.ensures.numbered c.into_store.ensures.sound c.into_store.ensures.quiet in
    record { left = subst (λ h. IsPutDown h c.into_store.result) c.into_connection.ensures it }
