-- Where the series of a code stands in a book.
use Rattle.std.specs.Prelude.{◌≡◌, ℕ, ◌<◌, map, take, Some, None, Option, slice_index_or, slice_set}
use Rattle.ledger.specs.Ledger.{Row, row_at, at_code}
use Rattle.book.specs.declared.state.Series.{Series}
use Rattle.book.specs.declared.state.Book.{Book}
use Rattle.book.specs.Views.{row_from, rows_of}

-- the place is that of a listed series, its row is the code's, and a series put there changes that row alone
pub record Stands (b : Book) (code place : ℕ) : Type 0 where
  pub inside : place < b.count
  pub row : (s : Series) → row_at (rows_of b) code ≡ Some (row_from (slice_index_or b.series place s))
  pub changes :
      (f : Row → Row) (s t : Series) → row_from t ≡ f (row_from (slice_index_or b.series place s))
      → take b.count (map row_from (slice_set b.series place t)) ≡ at_code code f (rows_of b)

abbrev pub Found : Book → ℕ → Option ℕ → Type 0
Found b code None = row_at (rows_of b) code ≡ None
Found b code (Some place) = Stands b code place
