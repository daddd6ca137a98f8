-- Data that was read: each object has its keys in byte order, so what stands at a key is what is found there.
use Rattle.std.proofs.Common.{◌≡◌, ℕ, List, Bool, true, false, not, cond, Option, Some, None, option_map, option_and_then, Ordering, Less, Equal, Greater, find, nat_cmp, refl, ap, ◌∙◌, subst}
use Rattle.std.specs.Bool.{⊤}
use Rattle.std.specs.Ordering.{match_ordering, ordering_reverse}
use Rattle.std.specs.Cmp.Lexicographic.{slice_cmp}
use Rattle.std.proofs.lemmas.Cmp.{nat_list_cmp_total, tied_itself}
use Rattle.json.specs.Lex.{tokens}
use Rattle.json.specs.Json as json
use Rattle.serde_json.specs.Data.{Data, null, boolean, number, string, array, object, Items, no_items, item, Members, no_members, member, put}
use Rattle.serde_json.specs.Find.{get_member}
use Rattle.serde_json.specs.Read.{number_of, of_json, of_items, of_members, max_depth, read}
use Rattle.nb_lines.specs.Fields.{member_keys}

-- P holds of each member
abbrev pub AllMembers : (List ℕ → Data → Type 0) → Members → Type 0
AllMembers P no_members = ⊤
AllMembers P (member k d ms) = P k d × AllMembers P ms

pub all_then : (P Q : List ℕ → Data → Type 0) → ((k : List ℕ) (d : Data) → P k d → Q k d) → (ms : Members) → AllMembers P ms → AllMembers Q ms
all_then P Q f no_members h = tt
all_then P Q f (member k d ms) h = (f k d h.0, all_then P Q f ms h.1)

pub all_both : (P Q R : List ℕ → Data → Type 0) → ((k : List ℕ) (d : Data) → P k d → Q k d → R k d) → (ms : Members) → AllMembers P ms → AllMembers Q ms → AllMembers R ms
all_both P Q R f no_members h g = tt
all_both P Q R f (member k d ms) h g = (f k d h.0 g.0, all_both P Q R f ms h.1 g.1)

-- all keys are above one
abbrev IsAbove : List ℕ → List ℕ → Data → Type 0
IsAbove k l d = slice_cmp nat_cmp k l ≡ Less

abbrev mutual
  pub HasOrder : Data → Type 0
  HasOrder null = ⊤
  HasOrder (boolean b) = ⊤
  HasOrder (number n) = ⊤
  HasOrder (string s) = ⊤
  HasOrder (array ds) = ItemsHaveOrder ds
  HasOrder (object ms) = MembersHaveOrder ms

  pub ItemsHaveOrder : Items → Type 0
  ItemsHaveOrder no_items = ⊤
  ItemsHaveOrder (item d ds) = HasOrder d × ItemsHaveOrder ds

  pub MembersHaveOrder : Members → Type 0
  MembersHaveOrder no_members = ⊤
  MembersHaveOrder (member k d ms) = AllMembers (IsAbove k) ms × HasOrder d × MembersHaveOrder ms

-- ---- what is put into an object keeps its order

below : (k l : List ℕ) → slice_cmp nat_cmp k l ≡ Greater → slice_cmp nat_cmp l k ≡ Less
below k l e = nat_list_cmp_total.antisymm l k ∙ ap ordering_reverse e

over : (k l : List ℕ) → slice_cmp nat_cmp k l ≡ Less → slice_cmp nat_cmp l k ≡ Greater
over k l e = nat_list_cmp_total.antisymm l k ∙ ap ordering_reverse e

above_put : (l k : List ℕ) (d : Data) (ms : Members) → slice_cmp nat_cmp l k ≡ Less → AllMembers (IsAbove l) ms → AllMembers (IsAbove l) (put k d ms)
above_put l k d no_members h above = (h, tt)
above_put l k d (member n e ms) h above = at (slice_cmp nat_cmp k n) (above_put l k d ms h above.1)
  where
    at : (o : Ordering) → AllMembers (IsAbove l) (put k d ms) → AllMembers (IsAbove l) (match_ordering o (member k d (member n e ms)) (member n d ms) (member n e (put k d ms)))
    at Less more = (h, above)
    at Equal more = above
    at Greater more = (above.0, more)

put_order : (k : List ℕ) (d : Data) (ms : Members) → HasOrder d → MembersHaveOrder ms → MembersHaveOrder (put k d ms)
put_order k d no_members good order = (tt, good, tt)
put_order k d (member l e ms) good order = at (slice_cmp nat_cmp k l) refl (put_order k d ms good order.2)
  where
    at : (o : Ordering) → slice_cmp nat_cmp k l ≡ o → MembersHaveOrder (put k d ms) → MembersHaveOrder (match_ordering o (member k d (member l e ms)) (member l d ms) (member l e (put k d ms)))
    at Less is more = ((is, all_then (IsAbove l) (IsAbove k) (λ n c up. nat_list_cmp_total.trans k l n is up) ms order.0), good, order)
    at Equal is more = (order.0, good, order.2)
    at Greater is more = (above_put l k d ms (below k l is) order.0, order.1, more)

-- ---- what is read has order

abbrev pub Each : {A : Type 0} → (A → Type 0) → Option A → Type 0
Each P None = ⊤
Each P (Some a) = P a

each_map : {A B : Type 0} (P : A → Type 0) (Q : B → Type 0) (f : A → B) → ((a : A) → P a → Q (f a)) → (o : Option A) → Each P o → Each Q (option_map f o)
each_map P Q f k None h = tt
each_map P Q f k (Some a) h = k a h

pub each_and_then : {A B : Type 0} (P : A → Type 0) (Q : B → Type 0) (f : A → Option B) → ((a : A) → P a → Each Q (f a)) → (o : Option A) → Each P o → Each Q (option_and_then f o)
each_and_then P Q f k None h = tt
each_and_then P Q f k (Some a) h = k a h

each_any : {A : Type 0} (o : Option A) → Each (λ _. ⊤) o
each_any None = tt
each_any (Some a) = tt

mutual
  json_order : (j : json.Json) → Each HasOrder (of_json j)
  json_order json.null = tt
  json_order (json.boolean b) = tt
  json_order (json.number s) = each_map (λ _. ⊤) HasOrder number (λ n h. tt) (number_of s) (each_any (number_of s))
  json_order (json.string s) = tt
  json_order (json.array js) = each_map ItemsHaveOrder HasOrder array (λ ds h. h) (of_items js) (items_order js)
  json_order (json.object ms) = each_map MembersHaveOrder HasOrder object (λ ds h. h) (of_members ms no_members) (members_order ms no_members tt)

  items_order : (js : json.Items) → Each ItemsHaveOrder (of_items js)
  items_order json.no_items = tt
  items_order (json.item j js) = each_and_then HasOrder ItemsHaveOrder _ (λ d h. each_map ItemsHaveOrder ItemsHaveOrder (item d) (λ ds g. (h, g)) (of_items js) (items_order js)) (of_json j) (json_order j)

  members_order : (ms : json.Members) (found : Members) → MembersHaveOrder found → Each MembersHaveOrder (of_members ms found)
  members_order json.no_members found h = h
  members_order (json.member k j ms) found h = each_and_then HasOrder MembersHaveOrder _ (λ d g. members_order ms (put k d found) (put_order k d found g h)) (of_json j) (json_order j)

pub read_order : (text : List ℕ) (d : Data) → read text ≡ Some d → HasOrder d
read_order text d e =
    subst (Each HasOrder) e (each_and_then (λ _. ⊤) HasOrder of_json (λ j h. json_order j) (option_and_then (λ p. json.if_last p.0 p.1) (json.value max_depth (tokens text))) (each_any _))

-- ---- what stands at a key is found there

same_text : (xs : List ℕ) → slice_cmp nat_cmp xs xs ≡ Equal
same_text xs = tied_itself nat_list_cmp_total xs

abbrev IsFoundIn : Members → List ℕ → Data → Type 0
IsFoundIn ms k d = get_member k ms ≡ Some d

pub all_found : (ms : Members) → MembersHaveOrder ms → AllMembers (IsFoundIn ms) ms
all_found no_members order = tt
all_found (member k d ms) order = (
  ap (λ o. match_ordering o (get_member k ms) (Some d) (get_member k ms)) (same_text k),
  all_both (IsAbove k) (IsFoundIn ms) (IsFoundIn (member k d ms)) (λ l e above at. ap (λ o. match_ordering o (get_member l ms) (Some d) (get_member l ms)) (over k l above) ∙ at) ms order.0 (all_found ms order.2),
)

pub all_have_order : (ms : Members) → MembersHaveOrder ms → AllMembers (λ k d. HasOrder d) ms
all_have_order no_members order = tt
all_have_order (member k d ms) order = (order.1, all_have_order ms order.2)

-- ---- keys that are known

pub all_known : (p : List ℕ → Bool) (ms : Members) → find (λ k. not (p k)) (member_keys ms) ≡ None → AllMembers (λ k d. p k ≡ true) ms
all_known p no_members e = tt
all_known p (member k d ms) e = at (p k) refl e (all_known p ms)
  where
    at : (b : Bool) → p k ≡ b → cond (not b) (Some k) (find (λ l. not (p l)) (member_keys ms)) ≡ None → (find (λ l. not (p l)) (member_keys ms) ≡ None → AllMembers (λ l d. p l ≡ true) ms) → (p k ≡ true) × AllMembers (λ l d. p l ≡ true) ms
    at true is e more = (is, more e)
    at false is e more = absurd (cc)
