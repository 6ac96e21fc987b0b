-- The content of an office in memory, and the undoing of changes.
use Rattle.std.specs.Prelude.{List, [], ◌∷◌}
use Rattle.std.specs.Ordering.{nat_cmp}
use Rattle.office_values.specs.Ids.{id_cmp}
use Rattle.office_base.specs.Tables.{Tables, lot_cmp, entry_cmp, release_cmp}
use Rattle.office_base.specs.Tables.{line_key, batch_key, tenderer_key, notice_key, lot_key, envelope_key, seal_key, security_key, award_key, contract_key, entry_key, release_key, compiled_key, late_key, performance_key}
use Rattle.keyed_table.specs.Replacing.{taken_back, CanTakeBack}
use Rattle.office_memory.specs.declared.tables.MemoryTables.{MemoryTables}
use Rattle.office_memory.specs.declared.tables.Undo.{Undo}
use Rattle.office_memory.specs.declared.tables.Undo.TheVariants as undo

-- the tables of the specification that an office in memory holds
abbrev pub tables_of : MemoryTables → Tables
tables_of m = record {
  lines = m.lines;
  batches = m.batches;
  tenderers = m.tenderers;
  notices = m.notices;
  lots = m.lots;
  envelopes = m.envelopes;
  seals = m.seals;
  securities = m.securities;
  awards = m.awards;
  contracts = m.contracts;
  entries = m.entries;
  releases = m.releases;
  compiled = m.compiled;
  late_rules = m.late_rules;
  performances = m.performances;
  clock = m.clock;
}

-- the tables after one change was taken back
abbrev pub after_undo : Undo → Tables → Tables
after_undo (undo.Line replaced) t = record t { lines = taken_back id_cmp line_key replaced t.lines }
after_undo (undo.Batch replaced) t = record t { batches = taken_back id_cmp batch_key replaced t.batches }
after_undo (undo.Tenderer replaced) t = record t { tenderers = taken_back id_cmp tenderer_key replaced t.tenderers }
after_undo (undo.Notice replaced) t = record t { notices = taken_back id_cmp notice_key replaced t.notices }
after_undo (undo.Lot replaced) t = record t { lots = taken_back lot_cmp lot_key replaced t.lots }
after_undo (undo.Envelope replaced) t = record t { envelopes = taken_back nat_cmp envelope_key replaced t.envelopes }
after_undo (undo.Seal replaced) t = record t { seals = taken_back nat_cmp seal_key replaced t.seals }
after_undo (undo.Security replaced) t = record t { securities = taken_back nat_cmp security_key replaced t.securities }
after_undo (undo.Award replaced) t = record t { awards = taken_back nat_cmp award_key replaced t.awards }
after_undo (undo.Contract replaced) t = record t { contracts = taken_back nat_cmp contract_key replaced t.contracts }
after_undo (undo.Entry replaced) t = record t { entries = taken_back entry_cmp entry_key replaced t.entries }
after_undo (undo.Release replaced) t = record t { releases = taken_back release_cmp release_key replaced t.releases }
after_undo (undo.Compiled replaced) t = record t { compiled = taken_back id_cmp compiled_key replaced t.compiled }
after_undo (undo.Late replaced) t = record t { late_rules = taken_back id_cmp late_key replaced t.late_rules }
after_undo (undo.Performance replaced) t = record t { performances = taken_back nat_cmp performance_key replaced t.performances }
after_undo (undo.Clock row) t = record t { clock = row }
after_undo undo.Nothing t = t

-- a change can be taken back without memory
abbrev pub CanUndo : Undo → Tables → Type 0
CanUndo (undo.Line replaced) t = CanTakeBack id_cmp line_key replaced t.lines
CanUndo (undo.Batch replaced) t = CanTakeBack id_cmp batch_key replaced t.batches
CanUndo (undo.Tenderer replaced) t = CanTakeBack id_cmp tenderer_key replaced t.tenderers
CanUndo (undo.Notice replaced) t = CanTakeBack id_cmp notice_key replaced t.notices
CanUndo (undo.Lot replaced) t = CanTakeBack lot_cmp lot_key replaced t.lots
CanUndo (undo.Envelope replaced) t = CanTakeBack nat_cmp envelope_key replaced t.envelopes
CanUndo (undo.Seal replaced) t = CanTakeBack nat_cmp seal_key replaced t.seals
CanUndo (undo.Security replaced) t = CanTakeBack nat_cmp security_key replaced t.securities
CanUndo (undo.Award replaced) t = CanTakeBack nat_cmp award_key replaced t.awards
CanUndo (undo.Contract replaced) t = CanTakeBack nat_cmp contract_key replaced t.contracts
CanUndo (undo.Entry replaced) t = CanTakeBack entry_cmp entry_key replaced t.entries
CanUndo (undo.Release replaced) t = CanTakeBack release_cmp release_key replaced t.releases
CanUndo (undo.Compiled replaced) t = CanTakeBack id_cmp compiled_key replaced t.compiled
CanUndo (undo.Late replaced) t = CanTakeBack id_cmp late_key replaced t.late_rules
CanUndo (undo.Performance replaced) t = CanTakeBack nat_cmp performance_key replaced t.performances
CanUndo (undo.Clock row) t = Unit {0}
CanUndo undo.Nothing t = Unit {0}

-- the tables after these changes were taken back, the last one first
abbrev pub after_undos : List Undo → Tables → Tables
after_undos [] t = t
after_undos (u ∷ us) t = after_undo u (after_undos us t)

-- these changes can be taken back without memory, the last one first
abbrev pub CanUndoAll : List Undo → Tables → Type 0
CanUndoAll [] t = Unit {0}
CanUndoAll (u ∷ us) t = CanUndoAll us t × CanUndo u (after_undos us t)
