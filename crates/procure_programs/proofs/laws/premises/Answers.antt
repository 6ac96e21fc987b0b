use Rattle.procure_programs.proofs.Names.{◌≡◌, inl, inr, refl, sym, subst, ℕ, [], Tables, IsSorted, no_tables, publishing, IsReached, Publisher, memory_meaning}
use Rattle.procure_programs.proofs.laws.premises.Goals as goal

pub returns : goal.returns
returns c =
    let sorted : (publisher : Publisher) (t : Tables) → IsReached publisher t → IsSorted t = λ publisher t it. c.order.ensures (publishing publisher) it.commands t it.reaches in
    let first : (publisher : Publisher) → IsReached publisher no_tables = λ publisher. record { commands = []; reaches = refl; keeps = c.keeping.ensures.starts } in
    record {
      in_memory = λ h it. ((refl, (refl, sorted h.settings.publisher h.tables it)), it);
      remembered = λ h it s is. (
        (
          refl,
          (
            subst (λ (inside : Tables × ℕ). memory_meaning.holds inside h.tables) (sym is) (refl, sorted h.settings.publisher h.tables it),
            c.nothing_remembered.ensures h.tables,
            c.nothing_counted.ensures h.tables,
            c.nothing_listed.ensures h.tables,
            c.nothing_found.ensures h.tables,
          ),
        ),
        it,
      );
      at_first = first;
      in_files = λ settings image none. (sorted settings.publisher no_tables (first settings.publisher), inr (none, refl), first settings.publisher);
      of_no_byte = inl refl;
    }
