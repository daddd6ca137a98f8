-- Sheets that may come of a sheet by edits: a variable of the same place, marks and inputs has the same site there.
use Rattle.std.proofs.Common.{inl, inr, ℕ, ◌≡◌, ◌+◌, ◌≤◌, refl, sym, ◌∙◌, ap, Bool, true, false, cond, not, ◌⊎◌, List, [], ◌∷◌, map, arith, Option, Some, None, is_some}
use Rattle.std.specs.Prelude.{slice_get}
use Rattle.std.specs.List.{list_any, filter_map}
use Rattle.nb_value.specs.declared.value.Value.{Value}
use Rattle.nb_value.specs.declared.value.Value.TheVariants.{Null}
use Rattle.nb_value.specs.declared.pairs.Field.{Field}
use Rattle.nb_value.specs.Fields as fields
use Rattle.nb_value.specs.declared.outcome.CellError.{CellError}
use Rattle.nb_value.specs.declared.outcome.ErrorKind.TheVariants.{DefinedTwice, Circular}
use Rattle.nb_value.specs.declared.outcome.Outcome.{Outcome}
use Rattle.nb_value.specs.declared.outcome.Outcome.TheVariants.{Value as Shows}
use Rattle.nb_syntax.specs.FreeNames.{free}
use Rattle.nb_sheet.specs.declared.row.BodyOf.{BodyOf}
use Rattle.nb_sheet.specs.declared.row.BodyOf.TheVariants.{Cell as CellBody, Import as ImportBody}
use Rattle.nb_sheet.specs.declared.row.VarRow.{VarRow}
use Rattle.nb_sheet.specs.Lists.{Name, nth, from_option, option_then}
use Rattle.nb_sheet.specs.Sheet.{Sheet}
use Rattle.nb_resolve.specs.declared.resolution.Resolution.{Resolution}
use Rattle.nb_resolve.specs.declared.resolution.Resolution.TheVariants.{Var, Builtin, Twice, Missing}
use Rattle.nb_resolve.specs.Names.{inputs, inputs_of_row, inputs_of_body, is_duplicate_row, duplicate, direct, resolve, variable_of}
use Rattle.nb_history.specs.Needs.{circular}
use Rattle.nb_history.specs.Reading.{Footing}
use Rattle.nb_history.specs.Rules.{place_of, input_code, given, value_given, values_given, body_of, marked_error, plain_error, name_of}
use Rattle.nb_history.proofs.Footings.{code_eq}
use Rattle.nb_history.proofs.Closing.{footing_by}
use Rattle.nb_history.proofs.Sites.{Site, site_of}

-- ---- what inputs give rests on the builtins and on what is shown

module _ (s s' : Sheet) (f : ℕ → Option Outcome) (same : s'.builtins ≡ s.builtins) where
  given_same : (i : Name × Resolution) → given s' f i ≡ given s f i
  given_same (n, Missing) = refl
  given_same (n, Twice) = refl
  given_same (n, Builtin b) = ap (λ (bs : List (Field Value)). Some (Shows (from_option Null (λ (x : Field Value). x.value) (slice_get bs b)))) same
  given_same (n, Var u) = refl

  all_given_same : (is : List (Name × Resolution)) → map (given s' f) is ≡ map (given s f) is
  all_given_same [] = refl
  all_given_same (i ∷ is) = ap (λ (o : Option Outcome). o ∷ map (given s' f) is) (given_same i) ∙ ap (λ (os : List (Option Outcome)). given s f i ∷ os) (all_given_same is)

  values_same : (is : List (Name × Resolution)) → values_given s' f is ≡ values_given s f is
  values_same [] = refl
  values_same (i ∷ is) =
      ap (λ (o : Option Outcome). fields.put (record { name = i.0; value = value_given o }) (values_given s' f is)) (given_same i)
      ∙ ap (λ (fs : List (Field Value)). fields.put (record { name = i.0; value = value_given (given s f i) }) fs) (values_same is)

  -- a site by its parts
  abbrev by_inputs : Option CellError → Option BodyOf → List (Name × Resolution) → Site
  by_inputs marked body is =
      record {
        marked = marked;
        body = body;
        waits = list_any (λ u. not (is_some (f u))) (filter_map variable_of is);
        givens = map (given s' f) is;
        values = values_given s' f is;
      }

  site_same : (v : ℕ) → marked_error s' v ≡ marked_error s v → body_of s' v ≡ body_of s v → inputs s' v ≡ inputs s v → site_of s' f v ≡ site_of s f v
  site_same v marks bodies ins =
      ap (λ (m : Option CellError). by_inputs m (body_of s' v) (inputs s' v)) marks
      ∙ ap (λ (b : Option BodyOf). by_inputs (marked_error s v) b (inputs s' v)) bodies
      ∙ ap (λ (is : List (Name × Resolution)). by_inputs (marked_error s v) (body_of s v) is) ins
      ∙ ap (λ (os : List (Option Outcome)). record { marked = marked_error s v; body = body_of s v; waits = list_any (λ u. not (is_some (f u))) (direct s v); givens = os; values = values_given s' f (inputs s v) }) (all_given_same (inputs s v))
      ∙ ap (λ (fs : List (Field Value)). record { marked = marked_error s v; body = body_of s v; waits = list_any (λ u. not (is_some (f u))) (direct s v); givens = map (given s f) (inputs s v); values = fs }) (values_same (inputs s v))

-- ---- inputs are as their numbers say

head_is : (x y : ℕ) (xs ys : List ℕ) → x ∷ xs ≡ y ∷ ys → x ≡ y
head_is x y xs ys h = cc

tail_is : (x y : ℕ) (xs ys : List ℕ) → x ∷ xs ≡ y ∷ ys → xs ≡ ys
tail_is x y xs ys h = cc

abbrev with_meaning : Sheet → ℕ → Name → Name × Resolution
with_meaning s m n = (n, resolve s m n)

module _ (s s' : Sheet) where
  names_same : (m : ℕ) (ns : List Name) → map input_code (map (with_meaning s' m) ns) ≡ map input_code (map (with_meaning s m) ns) → map (with_meaning s' m) ns ≡ map (with_meaning s m) ns
  names_same m [] h = refl
  names_same m (n ∷ ns) h =
      let codes : List Name → Sheet → List ℕ = λ ns s. map input_code (map (with_meaning s m) ns) in
      let here : resolve s' m n ≡ resolve s m n = code_eq (resolve s' m n) (resolve s m n) (head_is (input_code (n, resolve s' m n)) (input_code (n, resolve s m n)) (codes ns s') (codes ns s) h) in
      let more : map (with_meaning s' m) ns ≡ map (with_meaning s m) ns = names_same m ns (tail_is (input_code (n, resolve s' m n)) (input_code (n, resolve s m n)) (codes ns s') (codes ns s) h) in
      ap (λ (x : Resolution). (n, x) ∷ map (with_meaning s' m) ns) here ∙ ap (λ (is : List (Name × Resolution)). (n, resolve s m n) ∷ is) more

  body_same : (m : ℕ) (b : Option BodyOf) → map input_code (inputs_of_body s' m b) ≡ map input_code (inputs_of_body s m b) → inputs_of_body s' m b ≡ inputs_of_body s m b
  body_same m None h = refl
  body_same m (Some (CellBody cell)) h = names_same m (free cell) h
  body_same m (Some (ImportBody n from)) h =
      let here : resolve s' from n ≡ resolve s from n = code_eq (resolve s' from n) (resolve s from n) (head_is (input_code (n, resolve s' from n)) (input_code (n, resolve s from n)) [] [] h) in
      ap (λ (x : Resolution). (n, x) ∷ []) here

  cond_same : (m : ℕ) (b : Option BodyOf) (twice : Bool) → map input_code (cond twice [] (inputs_of_body s' m b)) ≡ map input_code (cond twice [] (inputs_of_body s m b)) → cond twice [] (inputs_of_body s' m b) ≡ cond twice [] (inputs_of_body s m b)
  cond_same m b true h = refl
  cond_same m b false h = body_same m b h

  row_same : (row : VarRow) → is_duplicate_row s' row ≡ is_duplicate_row s row → map input_code (inputs_of_row s' row) ≡ map input_code (inputs_of_row s row) → inputs_of_row s' row ≡ inputs_of_row s row
  row_same row twice h =
      let marks : inputs_of_row s' row ≡ cond (is_duplicate_row s row) [] (inputs_of_body s' row.«module» row.body) = ap (λ (b : Bool). cond b [] (inputs_of_body s' row.«module» row.body)) twice in
      marks ∙ cond_same row.«module» row.body (is_duplicate_row s row) (ap (map input_code) (sym marks) ∙ h)

  -- a variable of the same row
  module _ (v : ℕ) (row : VarRow) (at : nth s.rows v ≡ Some row) (at' : nth s'.rows v ≡ Some row) where
    twice_same : duplicate s' v ≡ duplicate s v → is_duplicate_row s' row ≡ is_duplicate_row s row
    twice_same h = sym (ap (from_option false (is_duplicate_row s')) at') ∙ h ∙ ap (from_option false (is_duplicate_row s)) at

    inputs_same : duplicate s' v ≡ duplicate s v → map input_code (inputs s' v) ≡ map input_code (inputs s v) → inputs s' v ≡ inputs s v
    inputs_same h k =
        let there : inputs s v ≡ inputs_of_row s row = ap (from_option [] (inputs_of_row s)) at in
        let there' : inputs s' v ≡ inputs_of_row s' row = ap (from_option [] (inputs_of_row s')) at' in
        there' ∙ row_same row (twice_same h) (ap (map input_code) (sym there') ∙ k ∙ ap (map input_code) there) ∙ sym there

    abbrev marked_by : Bool → Bool → Name → Option CellError
    marked_by twice around name = cond twice (Some (plain_error DefinedTwice name)) (cond around (Some (plain_error Circular name)) None)

    marks_same : duplicate s' v ≡ duplicate s v → circular s' v ≡ circular s v → marked_error s' v ≡ marked_error s v
    marks_same d c =
        let names : name_of s' v ≡ name_of s v = ap (λ (o : Option VarRow). from_option [] (λ (row : VarRow). from_option [] (λ n. n) row.name) o) (at' ∙ sym at) in
        ap (λ (b : Bool). marked_by b (circular s' v) (name_of s' v)) d
        ∙ ap (λ (b : Bool). marked_by (duplicate s v) b (name_of s' v)) c
        ∙ ap (λ (n : Name). marked_by (duplicate s v) (circular s v) n) names

-- ---- a later sheet

-- what may come of sheet s by edits at places past p: a row with a place is one of s, or has a place past p
pub record IsLater (s : Sheet) (p : ℕ) (s' : Sheet) : Type 0 where
  pub builtins : s'.builtins ≡ s.builtins
  pub rows : (v : ℕ) (row : VarRow) → nth s'.rows v ≡ Some row → 1 ≤ row.place → (nth s.rows v ≡ Some row) ⊎ (p + 1 ≤ row.place)

pub same_later : (s : Sheet) (p : ℕ) → IsLater s p s
same_later s p = record { builtins = refl; rows = λ v row at k. inl at }

pub less_late : (s : Sheet) (p : ℕ) (s' : Sheet) → IsLater s (p + 1) s' → IsLater s p s'
less_late s p s' h = record {
  builtins = h.builtins;
  rows = λ v row at k. elim (h.rows v row at k) [ inl old ↦ inl old | inr new ↦ inr (omega (arith, new)) ];
}

-- what v has there as it has it here
pub record SameAt (s s' : Sheet) (v : ℕ) : Type 0 where
  pub site : (f : ℕ → Option Outcome) → site_of s' f v ≡ site_of s f v
  pub body : body_of s' v ≡ body_of s v
  pub direct : direct s' v ≡ direct s v

module _ (s s' : Sheet) (p : ℕ) (h : IsLater s p s') (v : ℕ) where
  place_at : (t : Sheet) (row : VarRow) → nth t.rows v ≡ Some row → place_of t v ≡ row.place
  place_at t row e = ap (λ (o : Option VarRow). from_option 0 (λ (row : VarRow). row.place) o) e

  -- a row of an old place is the old row
  same_row : 1 ≤ place_of s' v → place_of s' v ≤ p → (row : VarRow) × (nth s.rows v ≡ Some row) × (nth s'.rows v ≡ Some row)
  same_row some small = go (nth s'.rows v) refl
    where
      go : (o : Option VarRow) → nth s'.rows v ≡ o → (row : VarRow) × (nth s.rows v ≡ Some row) × (nth s'.rows v ≡ Some row)
      go None e =
          let none : place_of s' v ≡ 0 = ap (λ (o : Option VarRow). from_option 0 (λ (row : VarRow). row.place) o) e in
          absurd (omega (arith, none, some))
      go (Some row) e =
          let at : place_of s' v ≡ row.place = place_at s' row e in
          elim (h.rows v row e (omega (arith, at, some))) [
            | inl old ↦ (row, old, e)
            | inr new ↦ absurd (omega (arith, at, new, small))
          ]

  pub body_kept : 1 ≤ place_of s' v → place_of s' v ≤ p → body_of s' v ≡ body_of s v
  body_kept some small =
      let w : (row : VarRow) × (nth s.rows v ≡ Some row) × (nth s'.rows v ≡ Some row) = same_row some small in
      ap (λ (o : Option VarRow). option_then o (λ (row : VarRow). row.body)) (w.2 ∙ sym w.1)

  pub same_at : (m n f g : ℕ → ℕ) → 1 ≤ place_of s' v → place_of s' v ≤ p → footing_by s' m f v ≡ footing_by s n g v → SameAt s s' v
  same_at m n f g some small feet =
      let w : (row : VarRow) × (nth s.rows v ≡ Some row) × (nth s'.rows v ≡ Some row) = same_row some small in
      let twice : duplicate s' v ≡ duplicate s v = ap (λ (f : Footing). f.is_duplicate) feet in
      let around : circular s' v ≡ circular s v = ap (λ (f : Footing). f.is_circular) feet in
      let codes : map input_code (inputs s' v) ≡ map input_code (inputs s v) = ap (λ (f : Footing). f.inputs) feet in
      let ins : inputs s' v ≡ inputs s v = inputs_same s s' v w.0 w.1 w.2 twice codes in
      record {
        site = λ f. site_same s s' f h.builtins v (marks_same s s' v w.0 w.1 w.2 twice around) (body_kept some small) ins;
        body = body_kept some small;
        direct = ap (λ (is : List (Name × Resolution)). filter_map variable_of is) ins;
      }
