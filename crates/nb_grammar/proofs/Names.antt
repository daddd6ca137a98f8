-- The function of a name is the one that has the name.
use Rattle.std.proofs.Common.{◌≡◌, ◌≤◌, ◌↔◌, ℕ, Bool, true, false, cond, refl, sym, ap, ◌∙◌, List, [], ◌∷◌, Option, Some, None, find, bytes_eq, lit≤}
use Rattle.std.proofs.lemmas.Slice.Eq.{bytes_eq-Decides}
use Rattle.nb_value.specs.Function.{function_name, arity}
use Rattle.nb_value.specs.declared.function.Function.{Function}
use Rattle.nb_value.specs.declared.function.Function.TheVariants as f
use Rattle.nb_grammar.specs.Words.{called, functions}

some_is : {A : Type 0} (x y : A) → Some x ≡ Some y → x ≡ y
some_is x y e = cc

found : {A : Type 0} (test : A → Bool) (xs : List A) (y : A) → find test xs ≡ Some y → test y ≡ true
found test [] y e = cc
found {A} test (x ∷ xs) y e = each (found test xs y) (test x) refl e
  where
    each : (find test xs ≡ Some y → test y ≡ true) → (b : Bool) → test x ≡ b → cond b (Some x) (find test xs) ≡ Some y → test y ≡ true
    each again true is h = ap test (sym (some_is x y h)) ∙ is
    each again false is h = again h

pub called_name : (name : List ℕ) (function : Function) → called name ≡ Some function → name ≡ function_name function
unfolding called
called_name name function e = sym ((bytes_eq-Decides (function_name function) name).0 (found (λ function. bytes_eq (function_name function) name) functions function e))

pub name_called : (function : Function) → called (function_name function) ≡ Some function
unfolding called
name_called f.Len = refl
name_called f.Sum = refl
name_called f.Min = refl
name_called f.Max = refl
name_called f.Abs = refl
name_called f.Range = refl
name_called f.Slice = refl
name_called f.Reverse = refl
name_called f.Sort = refl
name_called f.Keys = refl
name_called f.Values = refl
name_called f.Has = refl
name_called f.Text = refl
name_called f.Int = refl
name_called f.Split = refl
name_called f.Join = refl

pub called_is : (name : List ℕ) (function : Function) → (called name ≡ Some function) ↔ (name ≡ function_name function)
called_is name function = (called_name name function, λ is. ap called is ∙ name_called function)

-- what finds a function exactly where one has the name
pub called_so : (name : List ℕ) (answer : Option Function) → ((function : Function) → (answer ≡ Some function) ↔ (name ≡ function_name function)) → answer ≡ called name
called_so name (Some function) is = sym (ap called ((is function).0 refl) ∙ name_called function)
called_so name None is = each (called name) refl
  where
    each : (o : Option Function) → called name ≡ o → None ≡ called name
    each None e = sym e
    each (Some function) e = let a : None ≡ Some function = (is function).1 (called_name name function e) in cc

pub some_arguments : (function : Function) → 1 ≤ arity function
some_arguments f.Len = lit≤ tt
some_arguments f.Sum = lit≤ tt
some_arguments f.Min = lit≤ tt
some_arguments f.Max = lit≤ tt
some_arguments f.Abs = lit≤ tt
some_arguments f.Range = lit≤ tt
some_arguments f.Slice = lit≤ tt
some_arguments f.Reverse = lit≤ tt
some_arguments f.Sort = lit≤ tt
some_arguments f.Keys = lit≤ tt
some_arguments f.Values = lit≤ tt
some_arguments f.Has = lit≤ tt
some_arguments f.Text = lit≤ tt
some_arguments f.Int = lit≤ tt
some_arguments f.Split = lit≤ tt
some_arguments f.Join = lit≤ tt

pub few_arguments : (function : Function) → arity function ≤ 3
few_arguments f.Len = lit≤ tt
few_arguments f.Sum = lit≤ tt
few_arguments f.Min = lit≤ tt
few_arguments f.Max = lit≤ tt
few_arguments f.Abs = lit≤ tt
few_arguments f.Range = lit≤ tt
few_arguments f.Slice = lit≤ tt
few_arguments f.Reverse = lit≤ tt
few_arguments f.Sort = lit≤ tt
few_arguments f.Keys = lit≤ tt
few_arguments f.Values = lit≤ tt
few_arguments f.Has = lit≤ tt
few_arguments f.Text = lit≤ tt
few_arguments f.Int = lit≤ tt
few_arguments f.Split = lit≤ tt
few_arguments f.Join = lit≤ tt
