-- What is known of a variable among the inputs of another.
use Rattle.std.proofs.Common.{ℕ, ◌≡◌, ◌+◌, refl, ap, Bool, true, ◌&&◌, ◌⊎◌, inl, inr, eqb, List, [], ◌∷◌, map, length, Option, Some, None}
use Rattle.std.specs.List.{filter_map, cons_option, range_with_len, position_from}
use Rattle.std.proofs.lemmas.Bool.{cases_Bool, false≢true}
use Rattle.nb_sheet.specs.Lists.{Name, nth, numbers, numbers_from, is_name, from_option}
use Rattle.nb_graph.specs.Needs.{has}
use Rattle.std.specs.Str.{bytes_eq}
use Rattle.nb_value.specs.declared.pairs.Field.{Field}
use Rattle.nb_syntax.specs.FreeNames.{free}
use Rattle.nb_sheet.specs.Sheet.{Sheet, named}
use Rattle.nb_resolve.specs.Names.{resolve, resolved, inputs_of_row, inputs_of_body, is_duplicate_row, direct, variable_of}
use Rattle.nb_value.specs.declared.value.Value.{Value}
use Rattle.nb_sheet.specs.declared.row.BodyOf.{BodyOf}
use Rattle.nb_sheet.specs.declared.row.BodyOf.TheVariants.{Cell as CellBody, Import as ImportBody}
use Rattle.nb_sheet.specs.declared.row.VarRow.{VarRow}
use Rattle.nb_resolve.specs.declared.resolution.Resolution.{Resolution}
use Rattle.nb_resolve.specs.declared.resolution.Resolution.TheVariants.{Var, Builtin, Twice, Missing}
use Rattle.nb_graph.proofs.Reaches.{has_head, has_tail, has_cases, Within}

-- u is the one variable of some module that has some name
pub record OneNamed (s : Sheet) (u : ℕ) : Type 0 where
  pub in_module : ℕ
  pub name : Name
  pub alone : named s in_module name ≡ u ∷ []

resolved_var : (vs : List ℕ) (b : Option ℕ) (u : ℕ) → resolved vs b ≡ Var u → vs ≡ u ∷ []
resolved_var [] None u h = cc
resolved_var [] (Some b) u h = cc
resolved_var (v ∷ []) b u h = let e : v ≡ u = cc in ap (λ w. w ∷ []) e
resolved_var (v ∷ w ∷ more) b u h = cc

cons_variable : (n : Name) (res : Resolution) (rest : List ℕ) (u : ℕ) → has (cons_option (variable_of (n, res)) rest) u ≡ true → (res ≡ Var u) ⊎ (has rest u ≡ true)
cons_variable n (Var v) rest u h = elim (has_cases v rest u h) [ inl same ↦ inl (ap (λ w. Var w) same) | inr later ↦ inr later ]
cons_variable n (Builtin b) rest u h = inr h
cons_variable n Twice rest u h = inr h
cons_variable n Missing rest u h = inr h

module _ (s : Sheet) where
  resolve_var : (m : ℕ) (n : Name) (u : ℕ) → resolve s m n ≡ Var u → OneNamed s u
  resolve_var m n u h =
      record { in_module = m; name = n; alone = resolved_var (named s m n) (position_from (λ (b : Field Value). bytes_eq b.name n) 0 s.builtins) u h }

  from_names : (m : ℕ) (ns : List Name) (u : ℕ) → has (filter_map variable_of (map (λ n. (n, resolve s m n)) ns)) u ≡ true → OneNamed s u
  from_names m [] u h = absurd (false≢true h)
  from_names m (n ∷ ns) u h =
      elim (cons_variable n (resolve s m n) (filter_map variable_of (map (λ n. (n, resolve s m n)) ns)) u h) [
        | inl here ↦ resolve_var m n u here
        | inr later ↦ from_names m ns u later
      ]

  from_body : (m : ℕ) (b : Option BodyOf) (u : ℕ) → has (filter_map variable_of (inputs_of_body s m b)) u ≡ true → OneNamed s u
  from_body m None u h = absurd (false≢true h)
  from_body m (Some (CellBody c)) u h = from_names m (free c) u h
  from_body m (Some (ImportBody n from)) u h = from_names from (n ∷ []) u h

  from_row : (o : Option VarRow) (u : ℕ) → has (filter_map variable_of (from_option [] (inputs_of_row s) o)) u ≡ true → OneNamed s u
  from_row None u h = absurd (false≢true h)
  from_row (Some row) u h =
      elim (cases_Bool (is_duplicate_row s row)) [
        | inl twice ↦ absurd (false≢true (rw twice at h))
        | inr once ↦ from_body row.«module» row.body u (rw once at h)
      ]

  pub direct_named : (v u : ℕ) → has (direct s v) u ≡ true → OneNamed s u
  direct_named v u h = from_row (nth s.rows v) u h

-- the numbers of a filtered list are numbers of the list, and their elements pass
numbers_from_within : {A : Type 0} (test : A → Bool) (k : ℕ) (xs : List A) (u : ℕ) → has (numbers_from k test xs) u ≡ true → has (range_with_len k (length xs)) u ≡ true
numbers_from_within test k [] u h = absurd (false≢true h)
numbers_from_within test k (x ∷ xs) u h =
    elim (cases_Bool (test x)) [
      | inl here ↦ elim (has_cases k (numbers_from (k + 1) test xs) u (rw here at h)) [
        | inl same ↦ has_head k (range_with_len (k + 1) (length xs)) u same
        | inr later ↦ has_tail k (range_with_len (k + 1) (length xs)) u (numbers_from_within test (k + 1) xs u later)
      ]
      | inr not_here ↦ has_tail k (range_with_len (k + 1) (length xs)) u (numbers_from_within test (k + 1) xs u (rw not_here at h))
    ]

-- each variable among inputs is one of the sheet
pub direct_within : (s : Sheet) → Within (direct s) (numbers s.rows)
direct_within s w u h =
    let one : OneNamed s u = direct_named s w u h in
    numbers_from_within (λ (row : VarRow). eqb row.«module» one.in_module && is_name row.name one.name) 1 s.rows u
    (rw one.alone (has_head u [] u refl))
