-- Words of private clauses. No public clause uses them.
pub mod HeadBytes
