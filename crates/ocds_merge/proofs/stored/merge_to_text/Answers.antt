use Rattle.ocds_merge.proofs.Names.{◌≡◌, ◌≤◌, ◌∙◌, Some, false, sym, ap, subst, Data, depth, max_depth, compact_text, has_float, view}
use Rattle.ocds_merge.proofs.StorableLaw.{merge_shallow, merge_no_float}
use Rattle.ocds_merge.proofs.stored.merge_to_text.Goals as goal

pub returns : goal.returns
returns c = record {
  keeps = λ vs is storable.
      let plain : has_float (view c.args.merge.now) ≡ false = ap has_float is ∙ merge_no_float vs storable in
      let shallow : depth (view c.args.merge.now) ≤ max_depth = subst (λ (d : Data). depth d ≤ max_depth) (sym is) (merge_shallow vs storable) in
      record {
        is = c.in_ok-to_string.ensures.text plain ∙ ap compact_text is;
        reads = c.in_ok-to_string.ensures.reads_back shallow ∙ ap Some is;
      };
}
