-- An office that is opened in two files that hold nothing has no content. If the log was used, they held an office.
use Rattle.procure_programs.proofs.Names.{◌≡◌, inl, inr, [], refl, ap, ◌∙◌, Ghosts, Image, FileStore, catalog_tree, Trees, Lists, lists_once, Database, HasCleanDisk, file_state, over_files, empty_is_sound, this_version, EntersFound, Found, OpensBlank, OpensUsed, Origin, enters_bare, no_schema, HadOfficeIfUsed, OpensEmpty}
use Rattle.sqlite.specs.Held.{Held}
use Rattle.office_store.specs.declared.opened.Origin.TheVariants as from

module _ {D : Type 0} {g : Ghosts D} where
  bare_schema : (image : Image) (before : Held (FileStore D g)) → Found image before → (file_state before).committed.trees catalog_tree ≡ [] → before.schema ≡ no_schema
  bare_schema image before found bare =
      let now = file_state before in
      let lists : Lists (now.committed.trees catalog_tree) no_schema = (empty_is_sound now.committed.trees bare).lists in
      ap (λ (d : Database). d.schema) found.opened.0.clean
      ∙ lists_once (now.committed.trees catalog_tree) now.committed.schema no_schema (found.opened.1 found.opened.0.is_open).1.lists lists

  pub opens_empty : (image : Image) (origin : Origin) (now : Held (FileStore D g)) → OpensBlank image now → (HasCleanDisk (file_state now) → EntersFound image origin now) → OpensEmpty image now
  opens_empty image origin now blank enters clean (inl none) = blank clean none
  opens_empty image origin now blank enters clean (inr (db, held, empty)) =
      let (before, found, entered) = enters clean in
      let bare : (file_state before).committed.trees catalog_tree ≡ [] = ap (λ (trees : Trees). trees catalog_tree) (found.finds.holds db held) ∙ empty.1 in
      enters_bare over_files origin before now (bare_schema image before found bare) entered.enters

  pub had_office : (image : Image) (origin : Origin) (now : Held (FileStore D g)) → (HasCleanDisk (file_state now) → OpensUsed image origin)
      → (HasCleanDisk (file_state now) → EntersFound image origin now) → HasCleanDisk (file_state now) → HadOfficeIfUsed g image
  had_office image from.Found now used enters clean was =
      let (before, found, entered) = enters clean in
      ((used clean was).1, (before, found, this_version, entered.enters.0))
  had_office image from.Migrated now used enters clean was =
      let (before, found, entered) = enters clean in
      ((used clean was).1, (before, found, entered.enters.0, entered.enters.1))
  had_office image from.Made now used enters clean was = absurd ((used clean was).0 refl)
