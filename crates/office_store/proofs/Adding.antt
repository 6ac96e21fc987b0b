-- Rows that are taken and added up, one after another.
use Rattle.office_store.proofs.Names.{Ok, Err, Result, IfOk, Held, SumsAnswer, Tables, ShelfFault, KeepsOffice}
use Rattle.sqlite_trees.specs.declared.store.Store.{Ghosts}

pub keeps_then : {S : Type 0} (g : Ghosts S) (a b c : Held S) → KeepsOffice g a b → KeepsOffice g b c → KeepsOffice g a c
keeps_then g a b c first second n = record {
  before = λ clean. (first n).before ((second n).before clean);
  same = λ clean t h. (second n).same clean t ((first n).same ((second n).before clean) t h);
  stop = λ clean u left. (first n).stop ((second n).before clean) u ((second n).stop clean u left);
  sound = λ clean was. (second n).sound clean ((first n).sound ((second n).before clean) was);
}

pub sums_right : {T : Type 0} (right : Tables → T → Type 0) (Fits : Tables → Type 0) (r : Result T ShelfFault) (t : Tables) → SumsAnswer ⊥ right Fits r t → IfOk r (λ x. right t x × Fits t)
sums_right right Fits (Ok x) t h = h
sums_right right Fits (Err e) t h = tt
