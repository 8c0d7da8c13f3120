pub mod RarestLaws
