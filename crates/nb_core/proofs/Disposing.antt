-- What a dispose leaves, as one sees it who works out what closes.
use Rattle.std.proofs.Common.{ℕ, ◌≡◌, ◌+◌, arith, sym, ◌∙◌, ap, true, List, map, length, Option}
use Rattle.nb_sheet.specs.Sheet.{Sheet}
use Rattle.nb_log.specs.declared.entry.Entry.TheVariants.{Dispose}
use Rattle.nb_history.specs.Reading.{Reading, Start, start_of}
use Rattle.nb_history.specs.Log.{after}
use Rattle.nb_history.specs.History.{History, standing}
use Rattle.nb_history.proofs.Plus.{reading_entries}
use Rattle.nb_history.proofs.Shapes.{sound_reading}
use Rattle.nb_runs.specs.Starts.{start_in}
use Rattle.nb_closing.specs.declared.site.Site.{Site}
use Rattle.nb_closing.specs.declared.site.Moment.{Moment}
use Rattle.nb_closing.specs.Sites.{site_of, site_in, kept_of, IsScene}
use Rattle.nb_closing.proofs.StartSites.{site_map}

pub scene_disposed : (h : History) (editor : ℕ) (sheet : Sheet) (starts : List (Option Start)) (moment : Moment) → sheet ≡ (standing h).sheet → starts ≡ (standing h).starts
    → moment.sites.items ≡ map site_of starts → moment.disposed ≡ true → moment.place ≡ length h.log + 2
    → IsScene (after (standing h) (Dispose editor)) sheet starts moment
scene_disposed h editor sheet starts moment is own sites disposed place =
    let r : Reading = standing h in
    let here : (v : ℕ) → start_of r v ≡ start_in starts v = λ v. ap (λ (xs : List (Option Start)). start_in xs v) (sym own) in
    record {
      sheet = sym is;
      shaped = (sound_reading h.builtins h.log).shaped;
      kept = λ v. ap kept_of (here v);
      sites = λ v. ap site_of (here v) ∙ sym (ap (λ (l : List Site). site_in l v) sites ∙ site_map starts v);
      disposed = sym disposed;
      place = omega (arith, place, reading_entries h.builtins h.log);
    }
