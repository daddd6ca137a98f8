-- What an index holds now, and what it held at the last mark.
use Rattle.std.specs.Prelude.{ℕ, List, String}
use Rattle.std.specs.Global.{Global}
use Rattle.nb_index.specs.Numbers.{has}
use Rattle.nb_index.specs.Rows.{present_at, marked_at}
use Rattle.nb_index.specs.Keys.{number_in, is_name, is_place, is_source}
use Rattle.nb_index.specs.Contents.{Contents}
use Rattle.nb_index.specs.declared.index.Index.{Index}

-- the row of a module and a name
abbrev pub place_in : List (String Global) → List (ℕ × ℕ) → ℕ → List ℕ → ℕ
place_in names places m n = number_in is_place places (m, number_in is_name names n)

abbrev pub place_of : Index → ℕ → List ℕ → ℕ
place_of index m n = place_in index.names.keys index.places.keys m n

-- the row of a number from which links go
abbrev pub source_of : Index → ℕ → ℕ
source_of index f = number_in is_source index.sources.keys f

abbrev pub contents : Index → Contents
contents index =
    record {
      triples = λ m n v. has (present_at index.holders.rows.items (place_of index m n)) v;
      links = λ f t. has (present_at index.targets.rows.items (source_of index f)) t;
    }

abbrev pub marked : Index → Contents
marked index =
    record {
      triples = λ m n v. has (marked_at index.holders.rows.items (place_of index m n)) v;
      links = λ f t. has (marked_at index.targets.rows.items (source_of index f)) t;
    }
