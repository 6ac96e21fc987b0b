use Rattle.office_wire.proofs.Names.{◌≡◌, ℕ, List, ◌∷◌, [], ◌++◌, length, take, drop, Option, Some, None, codes, IfSome, IfNone, IsMomentText, IsLine}
use Rattle.office_wire.proofs.BlockLemmas.{line_parts, line_text}
use Rattle.office_wire.proofs.blocks.moment_in.Goals as goal

found : (line : List ℕ) → length line ≡ 24 → line ≡ codes "at " ++ take 20 (drop 3 line) ++ 10 ∷ [] → (o : Option ℕ) → IfSome o (λ m. IsMomentText m (take 20 (drop 3 line))) → IfSome o (IsLine line)
found line len whole None h = tt
found line len whole (Some m) h = record { long = len; text = take 20 (drop 3 line); says = h; whole = whole }

none : (line : List ℕ) → (o : Option ℕ) → IfNone o ((m : ℕ) → IsMomentText m (take 20 (drop 3 line)) → ⊥) → IfNone o ((m : ℕ) → IsLine line m → ⊥)
none line None h = λ m x. h m (line_text line m x)
none line (Some m) h = tt

pub returns-clause-found : goal.returns-clause-found
returns-clause-found c =
    let line = c.args.line.now in
    found line c.requires (line_parts line c.requires c.if-line-ne97.false c.if-line-ne116.false c.if-line-ne32.false c.if-line-ne10.false) c.read.result c.read.ensures.found

pub returns-clause-none : goal.returns-clause-none
returns-clause-none c = none c.args.line.now c.read.result c.read.ensures.none
