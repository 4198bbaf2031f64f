-- Each command is one whose parses clap's definitions tell.
use Rattle.std.proofs.Common.{◌≡◌, true, refl}
use Rattle.clap.specs.Words.{is_simple_and_free}
use Rattle.clap.proofs.OnLiterals.{clap_on_literals}
use Rattle.cov_words.specs.Asked.{merge_app, same_app, normal_app, upgrade_app, report_app, check_app, make_app}
use Rattle.cov_words.specs.Child.{run_app}
use Rattle.cov_words.specs.Groups.{collect_app}
use Rattle.cov_words.specs.Live.{serve_app, attach_app}

pub merge_is_simple : is_simple_and_free merge_app ≡ true
unfolding clap_on_literals
merge_is_simple = refl

pub same_is_simple : is_simple_and_free same_app ≡ true
unfolding clap_on_literals
same_is_simple = refl

pub normal_is_simple : is_simple_and_free normal_app ≡ true
unfolding clap_on_literals
normal_is_simple = refl

pub upgrade_is_simple : is_simple_and_free upgrade_app ≡ true
unfolding clap_on_literals
upgrade_is_simple = refl

pub report_is_simple : is_simple_and_free report_app ≡ true
unfolding clap_on_literals
report_is_simple = refl

pub check_is_simple : is_simple_and_free check_app ≡ true
unfolding clap_on_literals
check_is_simple = refl

pub make_is_simple : is_simple_and_free make_app ≡ true
unfolding clap_on_literals
make_is_simple = refl

pub collect_is_simple : is_simple_and_free collect_app ≡ true
unfolding clap_on_literals
collect_is_simple = refl

pub run_is_simple : is_simple_and_free run_app ≡ true
unfolding clap_on_literals
run_is_simple = refl

pub serve_is_simple : is_simple_and_free serve_app ≡ true
unfolding clap_on_literals
serve_is_simple = refl

pub attach_is_simple : is_simple_and_free attach_app ≡ true
unfolding clap_on_literals
attach_is_simple = refl
