-- Why a search is not made, in words.
use Rattle.std.specs.Prelude.{ℕ, List, codes}
use Rattle.search.specs.declared.error.SearchError.{SearchError}
use Rattle.search.specs.declared.error.SearchError.TheVariants.{TooManyRanks, LoadsTooShort, MarksTooShort, FiguresTooShort, WorkTooShort}

abbrev pub error_text : SearchError → List ℕ
error_text TooManyRanks = codes "too many ranks"
error_text LoadsTooShort = codes "a list is too short"
error_text MarksTooShort = codes "a list is too short"
error_text FiguresTooShort = codes "a list is too short"
error_text WorkTooShort = codes "a list is too short"
