pub mod OneJob
