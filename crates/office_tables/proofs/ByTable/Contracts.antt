-- Contracts: what is shown of their table, of the text that puts one, and of each question.
use Rattle.office_tables.proofs.TableTools.{◌≡◌, inl, inr, ◌∷◌, [], List, ℕ, pos, Some, codes, refl, ap, ◌∙◌, map, slice_get, drop, option_map, range_with_len, is_lt, nat_cmp_total, numbers_exact, Null, Int, Text, first_key, Row, same_name, Schema, Select, alone, chosen, first_found, max_budget, first, everything, listing_schema, State, Shown, same_id, Tables, same_number, text_column, number_column, IsIn, at_tree, IsIndexing, Holds, cast_null, cast_int, cast_perhaps, cast_words, numbers_equal, equal_numbers, one_true, only_true, text_tested, number_tested, numbers_cmp, and_true, then_equal, same_number_is, numbered, StatementMeans, parsed_in, equals_e, names_of, outputs_of, Has, one_test, select, columns_of, left, IsSelect, selects_mean, found_by_tree, gets, lists, Shape, at_rowid, columns_in, rows_in, clause_in, IsStored, ReadsTable, ReadsIndex, creates_it, indexes_it, IsOfficeTable, IsPutText, IsPutOf, StaysBeside}
use Rattle.office_base.specs.declared.puts.Put.TheVariants as put
use Rattle.office_tables.proofs.Names.{ContractRow, contract_at, create_contracts, contracts, create_contracts_of_notice, upsert_contracts, contract_values, contract_read, contract_form, how_text, Contracts}
use Rattle.office_base.specs.Tables.{contracts_of_notice}
use Rattle.office_tables.specs.Tables.Contracts.{contracts_of_notice as contracts_of_notice_index}

-- ---- the table

create_read : ReadsTable create_contracts contracts (parsed_in (first create_contracts))
unfolding everything parsed_in
create_read = record { def = _; is = refl; statement = refl; formats = refl; plainly = refl; defined = refl; whole = refl; covers = refl }

pub contracts_made : IsOfficeTable Contracts
unfolding same_name
contracts_made = record { bare = record { childless = refl; key = numbered refl refl refl; uncounted = refl }; named = refl; created = creates_it create_contracts contracts (parsed_in (first create_contracts)) create_read }

index_read : ReadsIndex create_contracts_of_notice contracts contracts_of_notice_index (parsed_in (first create_contracts_of_notice))
unfolding everything parsed_in listing_schema
index_read = record { def = _; is = refl; statement = refl; formats = refl; plainly = refl; table_is = refl; defined = λ n. refl; covers = refl; unlisted = refl }

pub indexes_contracts_of_notice : IsIndexing create_contracts_of_notice contracts contracts_of_notice_index
indexes_contracts_of_notice = indexes_it create_contracts_of_notice contracts contracts_of_notice_index (parsed_in (first create_contracts_of_notice)) index_read

-- its columns have their names
has : (n : ℕ) → Has (at_tree contracts n) max_budget (columns_of contracts)
unfolding same_name
has n = (refl, refl, refl, (refl, refl, refl, (refl, refl, refl, (refl, refl, refl, (refl, refl, refl, (refl, refl, refl, (refl, refl, refl, (refl, refl, refl, (refl, refl, refl, tt)))))))))

-- ---- its put

abbrev pub contract_shape : Shape
contract_shape = at_rowid 9

contract_stored : IsStored Contracts contract_form contract_shape
unfolding first_key
contract_stored = record {
  total = nat_cmp_total;
  exact = numbers_exact;
  computes = record { given = λ n x. refl; chosen = λ rows x. refl; numbered = λ m x. refl; kept = λ m x. refl; finds = λ x id more. refl };
  tries = λ n x. rw (cast_null, cast_int (pos x.contract), cast_int (pos x.signed), cast_int (pos x.moment), cast_perhaps x.ended, cast_words (option_map how_text x.how), cast_int (pos x.released));
  stores = λ n m x. rw (cast_null, cast_int (pos x.contract), cast_int (pos x.signed), cast_int (pos x.moment), cast_perhaps x.ended, cast_words (option_map how_text x.how), cast_int (pos x.released));
  meets = λ u v x y e. one_true _ (numbers_equal x.contract y.contract e);
  met = λ u v x y h. equal_numbers x.contract y.contract (only_true _ h);
  updates = λ n x y v more e. ap (λ q. Int (pos y.contract) ∷ Int (pos q) ∷ Null ∷ drop 1 (contract_values x)) e;
}

put_read : IsPutText Contracts contract_shape upsert_contracts
unfolding everything parsed_in columns_in rows_in clause_in
put_read = record { read = record { is = refl; statement = refl; formats = refl; targeted = refl; changes = refl }; unstamped = refl; one = record { whole = refl; given = refl }; rows = λ schema n. refl; names = λ n. refl; update = λ schema at n. refl }

pub contract_put : IsPutOf Contracts contract_form contract_shape upsert_contracts
contract_put = record { stored = contract_stored; reads = put_read; key = contracts_made.bare.key; accepted = λ schema n it. rw (it.stored, found_by_tree schema contracts n it) }

pub after_contract : (x : ContractRow) → StaysBeside Contracts contract_form (put.Contract x) x (λ t. t.contracts)
after_contract x t rows changed was stand Contracts = stand
after_contract x t rows changed was stand k = was k

-- ---- its questions

abbrev pub get_contract : List ℕ
get_contract = codes "SELECT contract, notice, lot, tenderer, signed, moment, ended, how, released FROM contracts WHERE contract = ?1"

get_contract_read : IsSelect get_contract (codes "contracts") (names_of (columns_of contracts)) (Some (equals_e (codes "contract") 1)) ([])
unfolding everything parsed_in
get_contract_read = record { is = refl; statement = refl; formats = refl }

pub get_contract_means : (schema : Schema) (n : ℕ) → IsIn schema contracts n → StatementMeans schema get_contract (Select (record { lets = []; body = select n (0 ∷ []) (0 ∷ range_with_len 2 8) ([]) }) (names_of (columns_of contracts)))
unfolding same_name alone chosen first_found
get_contract_means schema n it =
    selects_mean schema contracts n it (columns_of contracts) ([]) get_contract (has n) (Some (equals_e (codes "contract") 1)) _ _ _ get_contract_read
    (one_test schema it.place (at_tree contracts n) it.found contracts.name (outputs_of (at_tree contracts n) [] (columns_of contracts)) (0, number_column (codes "contract")) 1 (left (columns_of contracts)) _ (refl, refl, refl, tt) refl refl (inr refl, refl, refl))
    tt tt (rw (it.stored, found_by_tree schema contracts n it))

pub select_get_contract : (old new : State) (rows : List Row) (t : Tables) → Holds old.now t → (k : ℕ) → Shown get_contract (Int (pos k) ∷ []) old new rows → option_map contract_read (slice_get rows 0) ≡ contract_at k t
select_get_contract old new rows t was k h =
    gets contract_form.cmp nat_cmp_total numbers_exact contract_form.key contract_form.stored contract_form.back contract_form.row contract_form.read (λ v x. refl) old new rows (was.places Contracts) t.contracts (was.stands Contracts) get_contract (Int (pos k) ∷ []) (0 ∷ []) (0 ∷ range_with_len 2 8) ([]) _ (get_contract_means old.now.schema (was.places Contracts) (was.tables Contracts)) (λ (x : ContractRow). same_number x.contract k) (λ v x. and_true _ ∙ number_tested x.contract k)
    k (λ x. same_number_is x.contract k) (λ v x. refl) (λ a b. refl) h

abbrev pub list_contracts_of_notice : List ℕ
list_contracts_of_notice = codes "SELECT contract, notice, lot, tenderer, signed, moment, ended, how, released FROM contracts WHERE notice = ?1 ORDER BY contract"

list_contracts_of_notice_read : IsSelect list_contracts_of_notice (codes "contracts") (names_of (columns_of contracts)) (Some (equals_e (codes "notice") 1)) (codes "contract" ∷ [])
unfolding everything parsed_in
list_contracts_of_notice_read = record { is = refl; statement = refl; formats = refl }

pub list_contracts_of_notice_means : (schema : Schema) (n : ℕ) → IsIn schema contracts n → StatementMeans schema list_contracts_of_notice (Select (record { lets = []; body = select n (2 ∷ []) (0 ∷ range_with_len 2 8) (0 ∷ []) }) (names_of (columns_of contracts)))
unfolding same_name alone chosen first_found
list_contracts_of_notice_means schema n it =
    selects_mean schema contracts n it (columns_of contracts) ((0, number_column (codes "contract")) ∷ []) list_contracts_of_notice (has n) (Some (equals_e (codes "notice") 1)) _ _ _ list_contracts_of_notice_read
    (one_test schema it.place (at_tree contracts n) it.found contracts.name (outputs_of (at_tree contracts n) [] (columns_of contracts)) (1, text_column (codes "notice")) 1 (left (columns_of contracts)) _ (refl, refl, refl, tt) refl refl (inl (inl refl, refl), refl, refl))
    (refl, refl, refl, tt) (refl, tt) (rw (it.stored, found_by_tree schema contracts n it))

pub select_list_contracts_of_notice : (old new : State) (rows : List Row) (t : Tables) → Holds old.now t → (k : List ℕ) → Shown list_contracts_of_notice (Text k ∷ []) old new rows → map contract_read rows ≡ contracts_of_notice k t
select_list_contracts_of_notice old new rows t was k h =
    lists contract_form.cmp nat_cmp_total numbers_exact contract_form.key contract_form.stored contract_form.back contract_form.row contract_form.read (λ v x. refl) old new rows (was.places Contracts) t.contracts (was.stands Contracts) list_contracts_of_notice (Text k ∷ []) (2 ∷ []) (0 ∷ range_with_len 2 8) (0 ∷ []) _ (list_contracts_of_notice_means old.now.schema (was.places Contracts) (was.tables Contracts)) (λ (x : ContractRow). same_id x.notice k) (λ v x. and_true _ ∙ text_tested x.notice k)
    (λ (x : ContractRow). Int (pos x.contract) ∷ []) (λ v x. refl) (λ x y. then_equal _ ∙ ap is_lt (numbers_cmp x.contract y.contract)) h
