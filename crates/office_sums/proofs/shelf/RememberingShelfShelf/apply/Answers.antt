use Rattle.office_sums.proofs.Names.{List, ap, subst, sym, ◌∙◌, one_fault_more, after_puts, Put, Follows, KnowsEntries, CountsOn, CountsReleases, KnowsRows, Remembers}
use Rattle.office_sums.proofs.AfterLooks.{fails_after, leaves_after}
use Rattle.office_sums.proofs.Known.{none_known}
use Rattle.office_sums.proofs.NumbersOn.{none_counted}
use Rattle.office_sums.proofs.shelf.RememberingShelfShelf.apply.Goals as goal

pub returns-in-Ok : goal.returns-in-Ok
returns-in-Ok g c =
    let follow = c.follow.ensures in
    let looked = follow.keeps in
    let made = c.in-Ok.ensures.0 in (
      record {
        before = λ honest. looked.before (made.before honest);
        all = λ honest t held.
            let then = made.before honest in (
              made.all honest t (looked.same then t held.0),
              (subst (λ (ps : List Put). Follows c.args.self.now.known c.follow.new.self.known ps t) c.deref.ensures.value (follow.right then t held.0 held.3)).right
                  (g.met.H.Lookups.held_sorted _ t held.0) held.1,
              (subst (λ (ps : List Put). CountsOn c.follow.new.self.counts c.follow-2.new.self ps t) c.deref-2.ensures.value (c.follow-2.ensures t)).right
                  (g.met.H.Lookups.held_sorted _ t held.0) (subst (λ k. CountsReleases k t) (sym follow.counts) held.2),
              record { are = tt },
              subst (λ (ps : List Put). KnowsRows c.follow-3.new.self (after_puts ps t)) c.deref-3.ensures.value
                  (c.follow-3.ensures t (subst (λ k. KnowsRows k t) (sym follow.found) held.4)),
            );
        none = λ honest t held. tt;
        stop_all = λ honest t held. made.stop_all honest t (looked.same (made.before honest) t held.0);
        stop_none = λ honest. tt;
        sound = λ honest was. made.sound honest (looked.sound (made.before honest) was);
      },
      follow.counted,
      λ honest t held. tt,
    )

pub returns-in-Err : goal.returns-in-Err
returns-in-Err g c =
    let M = g.H.Lookups.meaning in
    let follow = c.follow.ensures in
    let looked = follow.keeps in
    let made = c.in-Err.ensures.0 in
    let puts = c.args.puts.items in (
      record {
        before = λ honest. looked.before (made.before honest);
        all = λ honest t held. tt;
        none = λ honest t held. (
          made.none honest t (looked.same (made.before honest) t held.0),
          subst (λ k. Remembers k t) (sym c.forget_all.ensures) (record { each = λ line sums found. none_known line sums found }),
          subst (λ k. CountsReleases k t) (sym c.forget_all-in-Err.ensures) (none_counted t),
          record { are = tt },
          c.forget_all-in-Err-2.ensures t,
        );
        stop_all = λ honest t held. tt;
        stop_none = λ honest u left. leaves_after M _ _ c.apply.new.self looked (Remembers c.args.self.now.known) (CountsReleases c.args.self.now.counts) (KnowsEntries c.args.self.now.listed) (KnowsRows c.args.self.now.found) (after_puts puts) u (made.before honest) (made.stop_none honest u left);
        sound = λ honest was. made.sound honest (looked.sound (made.before honest) was);
      },
      c.saturating_add-self.ensures ∙ ap one_fault_more follow.counted,
      λ honest t held. fails_after M _ _ c.apply.new.self looked puts c.in-Err.fault (c.in-Err.ensures.2 honest t (looked.same (made.before honest) t held.0)),
    )
