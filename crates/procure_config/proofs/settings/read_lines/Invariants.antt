use Rattle.procure_config.proofs.Names.{◌≡◌, ◌++◌, drop, option_map, items_view, lines_of}
use Rattle.procure_config.proofs.settings.read_lines.Given as goal

abbrev pub invariant-values : goal.invariant-values
invariant-values l =
    option_map (λ more. l.lines.items ++ more) (lines_of (items_view (drop l.value-index l.values))) ≡ lines_of (items_view l.values)
