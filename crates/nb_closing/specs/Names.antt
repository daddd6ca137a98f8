-- What a table of names gives for a module and a name, and what makes it the table of rows.
use Rattle.std.specs.Prelude.{ℕ, ◌≡◌, ◌&&◌, Bool, cond, nat_eq, List}
use Rattle.std.specs.Borrow.{Bor}
use Rattle.std.specs.HashMap.{HashMap, get}
use Rattle.std.specs.Str.{bytes_eq}
use Rattle.nb_sheet.specs.Lists.{Name, from_option}
use Rattle.nb_sheet.specs.declared.row.VarRow.{VarRow}
use Rattle.nb_resolve.specs.Scan.{also, found_in}
use Rattle.nb_resolve.specs.declared.resolution.Resolution.{Resolution}
use Rattle.nb_resolve.specs.declared.resolution.Resolution.TheVariants.{Missing}

-- a module and a name
abbrev pub Key : Type 0
Key = ℕ × Bor Name

abbrev pub is_same : Key → Key → Bool
is_same a b = nat_eq a.0 b.0 && bytes_eq a.1.now b.1.now

-- what the table gives for a key, `Missing` where it has none
abbrev pub given : {S : Type 0} → HashMap Key Resolution S → Key → Resolution
given table key = from_option Missing (λ r. r) (get is_same table key)

-- what was given for each key, where one more variable has this one
abbrev pub noted : Key → ℕ → (Key → Resolution) → Key → Resolution
noted k var before key = cond (is_same k key) (also var (before key)) (before key)

-- it gives for each module and name what that stands for by the variables of these rows
abbrev pub IsTable : {S : Type 0} → List VarRow → HashMap Key Resolution S → Type 0
IsTable rows table = (key : Key) → given table key ≡ found_in key.0 key.1.now rows
