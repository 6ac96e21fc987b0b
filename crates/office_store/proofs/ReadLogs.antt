-- Files of which only the log was looked at before they were opened.
use Rattle.office_store.proofs.Names.{◌≡◌, inl, inr, ℕ, Bool, false, sym, subst, ◌∙◌, true≢false, IsTrue, Files, outcomes, AreClean, OnlyReads, Image, both_clean, IsUnreadable, StandsAs, stored_size, FileStore, state_of, Held, AreFoundIn, BeginsWell, Finds, HoldsDatabase, IsKept, IsNothing, IsUnderWay, LeavesFiles, NamesSize, SaysSums, file_state, image_of, Leftover, same_image, HasCommit, is_unused, OpensUsed, Origin}
use Rattle.sqlite_disk.specs.declared.Disk.{Ghosts}
use Rattle.sqlite.specs.declared.file.Leftover.TheVariants as left
use Rattle.office_store.specs.declared.opened.Origin.TheVariants as from

module _ {D : Type 0} {g : Ghosts D} (old new : Files D) (log : OnlyReads g old.log new.log) (db : OnlyReads g old.db new.db) where
  same : image_of g new ≡ image_of g old
  same = same_image log db

  pub left_before : (image : Image) → outcomes g new.log new.db image → outcomes g old.log old.db image
  left_before image may = (log.crash image.log may.0, db.crash image.db may.1)

  pub finds_before : (now : Held (FileStore D g)) → Finds new now → Finds old now
  finds_before now it = record {
    honest = both_clean _ _ _ _ log.clean db.clean it.honest;
    holds = λ trees held. it.holds trees (subst (λ (i : Image). HoldsDatabase i trees) (sym same) held);
    reads = subst (λ (i : Image). AreFoundIn i (file_state now).committed.trees) same it.reads;
  }

  under_way : (image : Image) → IsUnderWay g new image → IsUnderWay g old image
  under_way image (inl may) = inl (left_before image may)
  under_way image (inr none) = inr none

  kept : (size : ℕ) (image : Image) → IsKept g new size image → IsKept g old size image
  kept size image it = record {
    same = elim it.same [ inl may ↦ inl (left_before image may) | inr stands ↦ inr (subst (λ (i : Image). StandsAs size i image) same stands) ];
    unread = λ unread. left_before image (it.unread (subst (λ (i : Image). IsUnreadable size i) (sym same) unread));
    something = λ no. it.something (λ may. no (left_before image may));
  }

  pub leaves_before : (rest : Leftover D g) → LeavesFiles new rest → LeavesFiles old rest
  leaves_before (left.Files now) it = λ image may. left_before image (it image may)
  leaves_before (left.Unopened now) (inl it) = inl (subst IsNothing same it.0, λ image may. under_way image (it.1 image may))
  leaves_before (left.Unopened now) (inr it) =
      let size = stored_size (state_of now).page_size in
      inr (
        λ nothing. it.0 (subst IsNothing (sym same) nothing),
        subst (λ (i : Image). NamesSize i size) same it.1,
        subst (λ (i : Image). BeginsWell size i) same it.2,
        λ sums. subst (λ (i : Image). SaysSums size i) same (it.3 sums),
        λ image may. kept (state_of now).page_size image (it.4 image may),
      )
  leaves_before (left.Store now) it = λ found recovered. (
    subst (λ (i : Image). AreFoundIn i found) same (it found recovered).0,
    λ trees held. (it found recovered).1 trees (subst (λ (i : Image). HoldsDatabase i trees) (sym same) held),
  )

  pub opens_used : (origin : Origin) (unused : Bool) → AreClean g new.log new.db → (AreClean g new.log new.db → unused ≡ is_unused (g.seen old.log))
      → (AreClean g new.log new.db → unused ≡ false → HasCommit (image_of g old)) → (origin ≡ from.Made → IsTrue unused) → OpensUsed (image_of g old) origin
  opens_used origin unused clean is commit made used =
      let it : unused ≡ false = is clean ∙ used in
      (λ new_office. true≢false (sym (made new_office) ∙ it), commit clean it)
