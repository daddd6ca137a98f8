use Rattle.std.proofs.Common.{◌≡◌, ◌<◌, ◌≤◌, ◌∙◌, sym, ap, arith, length, List, Some}
use Rattle.nb_log.specs.declared.entry.Entry.{Entry}
use Rattle.nb_history.specs.History.{standing}
use Rattle.nb_history.specs.Loaders.{keys_of, argv_of as argv_of_key}
use Rattle.nb_history.proofs.LiveTickets.{few_tickets}
use Rattle.nb_core.specs.Core.{live_from, key_of}
use Rattle.nb_loader.specs.Loads.{as_loaders}
use Rattle.nb_loader.proofs.Tickets.{within, later, ticket_there, first_found, none_live, none_left, none_below_next}
use Rattle.nb_loader.proofs.Keys.{ticket_argv, keyed_there, keyed_none}
use Rattle.nb_loader.proofs.ticket.loader_ticket.Goals as goal

pub returns-in_default-clause-ticket : goal.returns-in_default-clause-ticket
returns-in_default-clause-ticket c =
    sym (none_live (keys_of (as_loaders c.args.loaders.now)) (standing c.args.core.now) c.loop-at_least.at_least c.loop-at_least.invariant
    (sym c.in_default.ensures.number))

pub returns-in-Some-argv_of-clause-ticket : goal.returns-in-Some-argv_of-clause-ticket
returns-in-Some-argv_of-clause-ticket c =
    let keys = keys_of (as_loaders c.args.loaders.now) in
    let r = standing c.args.core.now in
    let found : live_from r c.loop-at_least.at_least ≡ Some c.in-Some.ticket = sym c.in-Some.ensures.number in
    let there = ticket_there keys r c.loop-at_least.at_least c.loop-at_least.invariant c.in-Some.ticket found in
    let argv : argv_of_key (as_loaders c.args.loaders.now) (key_of r c.in-Some.ticket) ≡ Some c.in-Some-argv_of.argv.now = ap (argv_of_key (as_loaders c.args.loaders.now)) (sym c.in-Some.ensures.key) ∙ sym c.in-Some-argv_of.ensures in
    sym (first_found keys r c.loop-at_least.at_least c.loop-at_least.invariant c.in-Some.ticket found
    (keyed_there (as_loaders c.args.loaders.now) r c.in-Some.ticket there.0 there.1 c.in-Some-argv_of.argv.now argv))

pub returns-in-Some-argv_of-clause-words : goal.returns-in-Some-argv_of-clause-words
returns-in-Some-argv_of-clause-words c =
    let keys = keys_of (as_loaders c.args.loaders.now) in
    let r = standing c.args.core.now in
    let found : live_from r c.loop-at_least.at_least ≡ Some c.in-Some.ticket = sym c.in-Some.ensures.number in
    let there = ticket_there keys r c.loop-at_least.at_least c.loop-at_least.invariant c.in-Some.ticket found in
    ticket_argv (as_loaders c.args.loaders.now) r c.in-Some.ticket there.0 there.1
    ∙ ap (argv_of_key (as_loaders c.args.loaders.now)) (sym c.in-Some.ensures.key) ∙ sym c.in-Some-argv_of.ensures

pub overflow_add-at_least : goal.overflow_add-at_least
overflow_add-at_least c =
    let keys = keys_of (as_loaders c.args.loaders.now) in
    let r = standing c.args.core.now in
    let last : c.in-Some.ticket ≤ length r.tickets = within keys r c.loop-at_least.at_least c.loop-at_least.invariant c.in-Some.ticket (sym c.in-Some.ensures.number) in
    let few : length r.tickets ≤ length c.args.core.now.log = few_tickets c.args.core.now.builtins c.args.core.now.log in
    let entries : c.len-entries.result ≡ length c.args.core.now.log = c.len-entries.ensures.value ∙ ap (λ (log : List Entry). length log) c.log.ensures.value in
    omega (arith, last, few, entries, c.len-entries.ensures.small)

pub loop-at_least-smaller : goal.loop-at_least-smaller
loop-at_least-smaller c =
    let from : c.loop-at_least.at_least ≤ c.in-Some.ticket = later (keys_of (as_loaders c.args.loaders.now)) (standing c.args.core.now) c.loop-at_least.at_least c.loop-at_least.invariant c.in-Some.ticket (sym c.in-Some.ensures.number) in
    omega (arith, from, c.loop-at_least-test.true)

pub loop-at_least-preserved : goal.loop-at_least-preserved
loop-at_least-preserved c =
    let keys = keys_of (as_loaders c.args.loaders.now) in
    let r = standing c.args.core.now in
    let found : live_from r c.loop-at_least.at_least ≡ Some c.in-Some.ticket = sym c.in-Some.ensures.number in
    let there = ticket_there keys r c.loop-at_least.at_least c.loop-at_least.invariant c.in-Some.ticket found in
    none_below_next keys r c.loop-at_least.at_least c.loop-at_least.invariant c.in-Some.ticket found
    (keyed_none (as_loaders c.args.loaders.now) r c.in-Some.ticket there.0 there.1
    (ap (argv_of_key (as_loaders c.args.loaders.now)) (sym c.in-Some.ensures.key) ∙ sym c.in_default-argv_of.ensures))

pub returns-clause-ticket : goal.returns-clause-ticket
returns-clause-ticket c =
    let r = standing c.args.core.now in
    let few : length r.tickets ≤ length c.args.core.now.log = few_tickets c.args.core.now.builtins c.args.core.now.log in
    let entries : c.len-entries.result ≡ length c.args.core.now.log = c.len-entries.ensures.value ∙ ap (λ (log : List Entry). length log) c.log.ensures.value in
    let past : length r.tickets < c.loop-at_least.at_least = omega (arith, few, entries, c.loop-at_least-test.false) in
    sym (none_left (keys_of (as_loaders c.args.loaders.now)) r c.loop-at_least.at_least c.loop-at_least.invariant past)
