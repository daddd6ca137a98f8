-- Rows and marks of copies, and the walk over the modules that a derive copies.
use Rattle.std.proofs.Common.{ℕ, ◌≡◌, ◌+◌, ◌-◌, ◌<◌, List, [], ◌∷◌, ◌++◌, map, true, length, drop, get_or, append_assoc, refl, sym, ◌∙◌, ap, Option, Some, None}
use Rattle.std.specs.Prelude.{slice_get}
use Rattle.std.proofs.lemmas.List.{map-append, drop_more}
use Rattle.nb_sheet.specs.declared.copies.NewVar.{NewVar}
use Rattle.nb_sheet.specs.declared.row.VarRow.{VarRow}
use Rattle.nb_sheet.specs.Derive.{Modules, add_modules, new_row, walk}
use Rattle.nb_sheet.specs.Lists.{from_option}
use Rattle.nb_sheet.proofs.Walk.{walk_more, walk_past}
use Rattle.nb_doc.specs.Numbers.{gone_through}

pub rows_of_two : (n : ℕ) (xs ys : List NewVar) → map (new_row n 0) (xs ++ ys) ≡ map (new_row n 0) xs ++ map (new_row n 0) ys
rows_of_two n xs ys = map-append (new_row n 0) xs ys

-- a mark for each copy is one for each module
pub marks_of : {A B : Type 0} (copy : A → B) (ks : List A) → map (λ (c : B). true) (map copy ks) ≡ map (λ (k : A). true) ks
marks_of copy [] = refl
marks_of copy (k ∷ ks) = ap (λ bs. true ∷ bs) (marks_of copy ks)

pub walk_step : (modules : Modules) (copied : ℕ → List VarRow) (n place : ℕ) (list new end : List ℕ) → place < n → new ≡ gone_through modules copied place list
    → walk modules copied (n - place) place list ≡ end → walk modules copied (n - (place + 1)) (place + 1) new ≡ end
walk_step modules copied n place list new end inside e h = go (slice_get list place) refl e
  where
    go : (o : Option ℕ) → slice_get list place ≡ o → new ≡ from_option list (λ k. add_modules modules list (copied k)) o → walk modules copied (n - (place + 1)) (place + 1) new ≡ end
    go None is f = ap (walk modules copied (n - (place + 1)) (place + 1)) f ∙ walk_past modules copied n place list end (sym is) h
    go (Some k) is f = walk_more modules copied n place k list new end inside (sym is) f h

-- one more of what is pushed for each element
pub pushes : {X Y : Type 0} (f : X → Y) (old new whole : List Y) (xs : List X) (i : ℕ) (d : X) (y : Y) → i < length xs → new ≡ old ++ y ∷ [] → y ≡ f (get_or xs i d)
    → old ++ map f (drop i xs) ≡ whole → new ++ map f (drop (i + 1) xs) ≡ whole
pushes f old new whole xs i d y inside put is h =
    ap (λ ys. ys ++ map f (drop (i + 1) xs)) put ∙ append_assoc old (y ∷ []) (map f (drop (i + 1) xs)) ∙ ap (λ z. old ++ z ∷ map f (drop (i + 1) xs)) is
    ∙ sym (ap (λ zs. old ++ map f zs) (drop_more xs i d inside)) ∙ h
