use Rattle.std.proofs.Common.{ℕ, ◌≡◌, ◌<◌, ◌+◌, ◌∙◌, ◌++◌, ◌∷◌, [], sym, ap, map, take, length, get_or, arith, List, Option}
use Rattle.std.proofs.lemmas.List.{take_more, take_all}
use Rattle.nb_history.specs.Reading.{Start}
use Rattle.nb_closing.specs.Sites.{site_of}
use Rattle.nb_closing.specs.declared.site.Site.{Site}
use Rattle.nb_closing.proofs.Tables.{map_push}
use Rattle.nb_closing.proofs.site.sites.Goals as goal

-- one more site
sites_more : (starts : List (Option Start)) (k : ℕ) (o : Option Start) (all : List Site) (x : Site) → k < length starts → o ≡ get_or starts k o → all ≡ map site_of (take k starts) → x ≡ site_of o
    → all ++ x ∷ [] ≡ map site_of (take (k + 1) starts)
sites_more starts k o all x inside at inv e =
    ap (λ (l : List Site). l ++ x ∷ []) inv
    ∙ ap (λ (y : Site). map site_of (take k starts) ++ y ∷ []) (e ∙ ap site_of at)
    ∙ sym (map_push site_of (take k starts) (get_or starts k o))
    ∙ ap (map site_of) (sym (take_more starts k o inside))

pub loop-k-init : goal.loop-k-init
loop-k-init c = c.new-all.ensures.items

pub loop-k-preserved : goal.loop-k-preserved
loop-k-preserved c =
    let starts = c.args.starts.now in
    let inside : c.loop-k.k < length starts.items = omega (arith, c.len-k-end.ensures, starts.ok) in
    ◌∙◌ {A = List Site} c.in_ok-push.ensures.items
    (sites_more starts.items c.loop-k.k c.index.result.now c.loop-k.all.items c.of.result inside c.index.ensures c.loop-k.invariant c.of.ensures)

pub returns : goal.returns
returns c =
    let starts = c.args.starts.now in
    c.loop-k.invariant ∙ ap (map site_of) (take_all c.loop-k.k starts.items (omega (arith, c.len-k-end.ensures, starts.ok)))
