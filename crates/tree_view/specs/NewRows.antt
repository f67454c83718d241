-- The rows of a new navigable.
use Rattle.std.specs.Prelude.{ℕ, List, Option, Some, None, false, is_some}
use Rattle.tree_log.specs.declared.entry.Entry.{Entry}
use Rattle.tree_log.specs.declared.entry.Load.{Load}
use Rattle.tree_log.specs.declared.entry.What.{What}
use Rattle.tree_log.specs.declared.entry.What.TheVariants.{Open, Frame}
use Rattle.tree_log.specs.Facts.{doc_of_load}
use Rattle.tree_view.specs.declared.plain.rows.MadeRow.{MadeRow}
use Rattle.tree_view.specs.declared.plain.rows.NavRow.{NavRow}
use Rattle.tree_view.specs.declared.plain.rows.NewRows.{NewRows}
use Rattle.tree_view.specs.Rows.{initial_row, load_row_if_any}

abbrev pub entry : Option ℕ → Option ℕ → What → Entry
entry by actor what = record { by = by; actor = actor; what = what }

-- a navigable as it is made
abbrev pub new_row : MadeRow → ℕ → List ℕ → Option ℕ → Option Load → NavRow
new_row made doc name opener load = record {
  made = made;
  active = doc;
  dropped = false;
  gone = false;
  closing = false;
  name = name;
  opener = opener;
  last_load = doc_of_load load;
}

-- a new top-level navigable
abbrev pub opened_row : Option ℕ → ℕ → ℕ → List ℕ → Option ℕ → ℕ → Option ℕ → Option Load → NavRow
opened_row actor doc group name opener flags navigator load =
    new_row (record { embedder = None; group = Some group; flags = flags; navigator = navigator; scripted = is_some actor }) doc name opener load

-- a new child navigable
abbrev pub framed_row : Option ℕ → ℕ → List ℕ → ℕ → Option Load → NavRow
framed_row actor doc name flags load =
    new_row (record { embedder = actor; group = None; flags = flags; navigator = None; scripted = false }) doc name None load

-- the rows that an entry makes, if it makes a navigable
abbrev pub new_rows_of : Option ℕ → What → Option NewRows
new_rows_of actor (Open nav doc group home origin name opener flags navigator load) = Some (record {
  row = opened_row actor doc group name opener flags navigator load;
  initial = initial_row nav origin home;
  loaded = load_row_if_any nav load;
})
new_rows_of actor (Frame nav doc home origin name flags load) = Some (record {
  row = framed_row actor doc name flags load;
  initial = initial_row nav origin home;
  loaded = load_row_if_any nav load;
})
new_rows_of actor _ = None

abbrev pub new_rows : Entry → Option NewRows
new_rows e = new_rows_of e.actor e.what
