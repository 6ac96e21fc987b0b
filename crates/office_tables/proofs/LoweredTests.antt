-- The compiled form of a parameter, of `a = c`, of `a > c` and of `a AND c`, in any scope.
use Rattle.office_tables.proofs.Names.{◌≡◌, ◌-◌, Ok, true, ℕ, suc, nat_lt, Term, col, op2, Expr, out-Expr, Expr-F, Carried, Context, Checked, Lowering, chosen, spend, begin, finish, compared, node, opened, passes, operation, both, combine, wanted_truth, tests_truth, tests_alias, lower_to}
use Rattle.sqlite_sql.specs.declared.ops.BinaryOp.TheVariants as by
use Rattle.sqlite_sql.specs.declared.ops.CompareOp.TheVariants as compare
use Rattle.sqlite_ast.specs.declared.Binary.TheVariants as binary
use Rattle.sqlite_resolve.specs.declared.state.State.{State}
use Rattle.sqlite_resolve.specs.Lowering.{nothing}
use Rattle.office_tables.proofs.Whole.{at_budget}

-- an expression is compiled as its node is
abbrev pub lowered : (d : ℕ) (cx : Context) (e : Expr) (s : State) (r : Checked (Term × State)) → node (lower_to d) cx e s ≡ r → lower_to (suc d) cx e s ≡ r
unfolding lower_to
lowered d cx e s r h = h

parameter_node : (low : Context → Expr → Lowering Term) (cx : Context) (e : Expr) (m n b : ℕ) (l : Carried) → out-Expr e ≡ Expr-F.Parameter m → nat_lt 1 b ≡ true
    → node low cx e (at_budget n b l) ≡ Ok (col 0 (m - 1), at_budget n (b - 1) nothing)
unfolding node spend begin opened finish passes
parameter_node low cx e m n b l is enough = rw (enough, is)

pub parameter_is : (d : ℕ) (cx : Context) (e : Expr) (m n b : ℕ) (l : Carried) → out-Expr e ≡ Expr-F.Parameter m → nat_lt 1 b ≡ true
    → lower_to (suc d) cx e (at_budget n b l) ≡ Ok (col 0 (m - 1), at_budget n (b - 1) nothing)
parameter_is d cx e m n b l is enough = lowered d cx e (at_budget n b l) _ (parameter_node (lower_to d) cx e m n b l is enough)

module _ (cx : Context) (e a c : Expr) (x y : Term) (n b b₁ b₂ : ℕ) (l l₁ l₂ : Carried) (enough : nat_lt 1 b ≡ true) where
  equal_node : (low : Context → Expr → Lowering Term) → out-Expr e ≡ Expr-F.Binary binary.Eq a c
      → low cx a (at_budget n (b - 1) nothing) ≡ Ok (x, at_budget n b₁ l₁) → low cx c (at_budget n b₁ l₁) ≡ Ok (y, at_budget n b₂ l₂)
      → node low cx e (at_budget n b l) ≡ Ok (compared cx (by.Compare compare.Eq (chosen l₁ l₂)) x y, at_budget n b₂ nothing)
  unfolding node spend begin opened finish passes operation both combine wanted_truth tests_truth tests_alias
  equal_node low is left right = rw (enough, is, left, right)

  -- `a = c`
  pub equal_is : (d : ℕ) → out-Expr e ≡ Expr-F.Binary binary.Eq a c
      → lower_to d cx a (at_budget n (b - 1) nothing) ≡ Ok (x, at_budget n b₁ l₁) → lower_to d cx c (at_budget n b₁ l₁) ≡ Ok (y, at_budget n b₂ l₂)
      → lower_to (suc d) cx e (at_budget n b l) ≡ Ok (compared cx (by.Compare compare.Eq (chosen l₁ l₂)) x y, at_budget n b₂ nothing)
  equal_is d is left right = lowered d cx e (at_budget n b l) _ (equal_node (lower_to d) is left right)

  above_node : (low : Context → Expr → Lowering Term) → out-Expr e ≡ Expr-F.Binary binary.Gt a c
      → low cx a (at_budget n (b - 1) nothing) ≡ Ok (x, at_budget n b₁ l₁) → low cx c (at_budget n b₁ l₁) ≡ Ok (y, at_budget n b₂ l₂)
      → node low cx e (at_budget n b l) ≡ Ok (compared cx (by.Compare compare.Gt (chosen l₁ l₂)) x y, at_budget n b₂ nothing)
  unfolding node spend begin opened finish passes operation both combine wanted_truth tests_truth tests_alias
  above_node low is left right = rw (enough, is, left, right)

  -- `a > c`
  pub above_is : (d : ℕ) → out-Expr e ≡ Expr-F.Binary binary.Gt a c
      → lower_to d cx a (at_budget n (b - 1) nothing) ≡ Ok (x, at_budget n b₁ l₁) → lower_to d cx c (at_budget n b₁ l₁) ≡ Ok (y, at_budget n b₂ l₂)
      → lower_to (suc d) cx e (at_budget n b l) ≡ Ok (compared cx (by.Compare compare.Gt (chosen l₁ l₂)) x y, at_budget n b₂ nothing)
  above_is d is left right = lowered d cx e (at_budget n b l) _ (above_node (lower_to d) is left right)

  and_node : (low : Context → Expr → Lowering Term) → out-Expr e ≡ Expr-F.Binary binary.And a c
      → low cx a (at_budget n (b - 1) nothing) ≡ Ok (x, at_budget n b₁ l₁) → low cx c (at_budget n b₁ l₁) ≡ Ok (y, at_budget n b₂ l₂)
      → node low cx e (at_budget n b l) ≡ Ok (op2 by.And x y, at_budget n b₂ nothing)
  unfolding node spend begin opened finish passes operation both combine wanted_truth tests_truth tests_alias
  and_node low is left right = rw (enough, is, left, right)

  -- `a AND c`
  pub and_is : (d : ℕ) → out-Expr e ≡ Expr-F.Binary binary.And a c
      → lower_to d cx a (at_budget n (b - 1) nothing) ≡ Ok (x, at_budget n b₁ l₁) → lower_to d cx c (at_budget n b₁ l₁) ≡ Ok (y, at_budget n b₂ l₂)
      → lower_to (suc d) cx e (at_budget n b l) ≡ Ok (op2 by.And x y, at_budget n b₂ nothing)
  and_is d is left right = lowered d cx e (at_budget n b l) _ (and_node (lower_to d) is left right)
