-- Equal trees list the same schema.
use Rattle.office_store.proofs.Names.{◌≡◌, sym, subst, Trees, catalog_tree, Lists, lists_once, Database, IsDatabase}

pub schema_once : (d e : Database) → IsDatabase d → IsDatabase e → d.trees ≡ e.trees → d.schema ≡ e.schema
schema_once d e a b same =
    let lists : Lists (d.trees catalog_tree) e.schema = subst (λ (db : Trees). Lists (db catalog_tree) e.schema) (sym same) b.lists in
    lists_once (d.trees catalog_tree) d.schema e.schema a.lists lists
