use Rattle.std.proofs.Common.{◌≡◌, ℕ, ◌+◌, ◌<◌, ◌≤◌, length, Ok, Err, sym, ap, ◌∙◌, arith, rules}
use lib.ListN.{length-map}
use Rattle.semantics.specs.Net.{busy_at}
use Rattle.semantics.specs.Calls.{lowest}
use Rattle.delivery.specs.Known.{only_known, known_net}
use Rattle.calls.specs.Slots.{counted, written, state_of, due_among, opening}
use Rattle.calls.proofs.Paths.{passed_room}
use Rattle.calls.proofs.Steps.{told_count, told_written}
use Rattle.calls.proofs.Words.{word_refused, word_at_busy, word_at_due, word_goes, busy_under, due_under}
use Rattle.calls.proofs.word.Goals as goal

pub returns-in_err-test_paths : goal.returns-in_err-test_paths
returns-in_err-test_paths g c =
    let net = known_net g.M.Machine.meaning c.args.rules.now in
    let ps = c.args.paths.now in
    let es = c.args.events.now in
    let σ = c.args.states.now in
    let as_many : length σ ≡ length net.stations = c.requires ∙ sym (length-map (g.M.Machine.meaning c.args.rules.now.machine) only_known) in
    let is : c.from_residual.result ≡ Err c.in_err-test_paths.field-0.0 = search rules in
    let eq = λ (t : ℕ).
    word_refused net ps c.args.word.port c.args.word.value (length es) (state_of σ t) _ (c.in_err-test_paths.ensures ∙ ap (λ n. opening n ps (length es)) as_many)
    in
    record { answer = λ t. is ∙ ap (λ o. counted o.answer) (eq t); states_left = λ t. ap (λ o. o.state) (eq t); slots = λ t. ap (λ o. written o.answer es) (eq t) }

pub overflow_add-place : goal.overflow_add-place
overflow_add-place g c =
    let net = known_net g.M.Machine.meaning c.args.rules.now in
    let few = (g.M.Machine.sound c.args.rules.now.machine).few_stations in
    let under : c.in-Some.place < length c.args.states.now = busy_under net.stations c.args.states.now _ _ c.in-Some.ensures in
    omega arith

pub returns-in-Some : goal.returns-in-Some
returns-in-Some g c =
    let net = known_net g.M.Machine.meaning c.args.rules.now in
    let ps = c.args.paths.now in
    let es = c.args.events.now in
    let σ = c.args.states.now in
    let as_many : length σ ≡ length net.stations = c.requires ∙ sym (length-map (g.M.Machine.meaning c.args.rules.now.machine) only_known) in
    let eq = λ (t : ℕ).
    word_at_busy net ps c.args.word.port c.args.word.value (length es) (state_of σ t) (c.in_ok-test_paths.ensures ∙ ap (λ n. opening n ps (length es)) as_many)
    c.in-Some.place _ (omega arith) (c.in-Some.ensures ∙ ap (lowest (busy_at net.stations σ) 0) as_many)
    in
    record {
      answer = λ t. ap Err c.at.ensures ∙ ap (λ o. counted o.answer) (eq t);
      states_left = λ t. ap (λ o. o.state) (eq t);
      slots = λ t. ap (λ o. written o.answer es) (eq t);
    }

pub overflow_add-place-in-Some-due_before_words : goal.overflow_add-place-in-Some-due_before_words
overflow_add-place-in-Some-due_before_words g c =
    let net = known_net g.M.Machine.meaning c.args.rules.now in
    let few = (g.M.Machine.sound c.args.rules.now.machine).few_stations in
    let under : c.in-Some-due_before_words.place < length c.args.states.now =
    due_under net.stations net.order net.parts c.args.states.now _ _ c.in-Some-due_before_words.ensures
    in
    omega arith

pub returns-in-Some-due_before_words : goal.returns-in-Some-due_before_words
returns-in-Some-due_before_words g c =
    let net = known_net g.M.Machine.meaning c.args.rules.now in
    let ps = c.args.paths.now in
    let es = c.args.events.now in
    let σ = c.args.states.now in
    let as_many : length σ ≡ length net.stations = c.requires ∙ sym (length-map (g.M.Machine.meaning c.args.rules.now.machine) only_known) in
    let eq = λ (t : ℕ).
    word_at_due net ps c.args.word.port c.args.word.value (length es) (state_of σ t) (c.in_ok-test_paths.ensures ∙ ap (λ n. opening n ps (length es)) as_many)
    c.in-Some-due_before_words.place (c.in-Some-due_before_words.place + 1) (omega arith)
    (sym c.in_default.is ∙ c.lowest_busy.ensures ∙ ap (lowest (busy_at net.stations σ) 0) as_many)
    (c.in-Some-due_before_words.ensures ∙ ap (due_among net.stations net.order net.parts σ) as_many)
    in
    record {
      answer = λ t. ap Err c.at-in-Some-due_before_words.ensures ∙ ap (λ o. counted o.answer) (eq t);
      states_left = λ t. ap (λ o. o.state) (eq t);
      slots = λ t. ap (λ o. written o.answer es) (eq t);
    }

pub returns : goal.returns
returns g c =
    let net = known_net g.M.Machine.meaning c.args.rules.now in
    let ps = c.args.paths.now in
    let es = c.args.events.now in
    let σ = c.args.states.now in
    let as_many : length σ ≡ length net.stations = c.requires ∙ sym (length-map (g.M.Machine.meaning c.args.rules.now.machine) only_known) in
    let eq = λ (t : ℕ).
    word_goes net ps c.args.word.port c.args.word.value (length es) (state_of σ t) (c.in_ok-test_paths.ensures ∙ ap (λ n. opening n ps (length es)) as_many)
    (sym c.in_default.is ∙ c.lowest_busy.ensures ∙ ap (lowest (busy_at net.stations σ) 0) as_many)
    (sym c.in_default-due_before_words.is ∙ c.due_before_words.ensures ∙ ap (due_among net.stations net.order net.parts σ) as_many)
    in
    let room = passed_room _ (length es) _ c.in_ok-test_paths.ensures in
    let h : c.deliver.result ≤ length c.deliver.new.events = omega (arith, c.deliver.ensures.high, c.deliver.auto.events) in
    record {
      answer = λ t. ap Ok (told_count _ es _ _ _ _ h c.deliver.ensures) ∙ ap (λ o. counted o.answer) (eq t);
      states_left = λ t. ap (λ τ. state_of τ t) c.deliver.ensures.left ∙ ap (λ o. o.state) (eq t);
      slots = λ t. told_written _ es _ _ _ _ h c.deliver.ensures ∙ ap (λ o. written o.answer es) (eq t);
    }
